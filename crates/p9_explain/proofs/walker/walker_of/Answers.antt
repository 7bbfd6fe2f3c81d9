use Rattle.std.proofs.Common.{ap, sym, ◌∙◌}
use Rattle.p9_explain.specs.Walker.{takes_all}
use Rattle.p9_explain.proofs.Walkers.{takes-all}
use Rattle.p9_explain.proofs.walker.walker_of.Goals as goal

pub returns-then-has_right : goal.returns-then-has_right
returns-then-has_right g c =
    takes-all c.args.world.now c.as_slice-user-items.result.now c.loop-user.user-index
    c.user-item.result c.args.breach.now.steps.items c.loop-user-test.true c.user-item.is
    (c.as_slice-user-items.ensures.value ∙ ap (λ w. w.users) c.world.view_is)
    (ap (takes_all c.args.world.now c.user-item.result) (sym c.as_slice-steps.ensures.value)
    ∙ sym c.takes_all.ensures ∙ c.if-takes_all.true)

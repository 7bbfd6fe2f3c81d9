use Rattle.std.proofs.Common.{ℕ, List, Bor, refl, sym, ◌∙◌}
use Rattle.p9_world.proofs.Names.{names_behind-all, names_behind-next, names_behind-none}
use Rattle.p9_world.proofs.path.names_among.Goals as goal

pub loop-element-preserved : goal.loop-element-preserved
loop-element-preserved g c =
    names_behind-next (λ (e : Bor (List ℕ)). e.now) c.args.elements.now
    c.loop-element.element-index _ c.loop-element.names.items c.in-Some.name
    c.push.new.self.items c.loop-element-test.true c.in-Some.ensures.some.0
    c.in-Some.ensures.some.1 c.in_ok-push.ensures.items
    ∙ c.loop-element.invariant

pub returns-in_default : goal.returns-in_default
returns-in_default g c =
    sym (names_behind-none (λ (e : Bor (List ℕ)). e.now) c.args.elements.now
    c.loop-element.element-index _ c.loop-element.names.items c.loop-element-test.true
    (c.in_default.ensures.none.0 refl))
    ∙ c.loop-element.invariant

pub returns : goal.returns
returns g c =
    sym (names_behind-all (λ (e : Bor (List ℕ)). e.now) c.args.elements.now
    c.loop-element.element-index c.loop-element.names.items c.loop-element-test.false)
    ∙ c.loop-element.invariant

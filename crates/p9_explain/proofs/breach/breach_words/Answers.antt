use Rattle.std.proofs.Common.{ap, subst, sym, ◌++◌, ◌∙◌}
use Rattle.std.specs.String.{string_bytes}
use Rattle.p9_explain.specs.Told.{IsWayTold}
use Rattle.p9_explain.specs.Walker.{steps_by}
use Rattle.p9_explain.proofs.breach.breach_words.Goals as goal

pub returns : goal.returns
returns g c =
    let world = c.args.world.now in
    let breach = c.args.breach.now in
    let walker = c.walker_of-walker.result in
    let told = c.in_ok-push_way.ensures in
    record {
      walker = walker;
      takes_all = c.walker_of-walker.ensures;
      told = subst (λ t. IsWayTold world (steps_by walker breach.steps.items) breach.member breach.kind t)
          (sym (told.2 ∙ ap (λ o. o ++ told.0) c.new-text.ensures.bytes))
          (subst (λ ss. IsWayTold world ss breach.member breach.kind told.0)
          (c.as_slice-2.ensures.value ∙ c.in_ok-steps.ensures ∙ ap (steps_by walker) c.as_slice.ensures.value)
          told.1);
    }

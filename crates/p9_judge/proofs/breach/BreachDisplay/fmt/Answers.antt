use Rattle.std.proofs.Common.{◌≡◌, ◌+◌, ◌∙◌, ◌∷◌, ◌++◌, [], sym, take, ap, rules}
use Rattle.std.specs.List.{flat_map}
use Rattle.std.proofs.Output.{has_written_append, has_written_of_eq}
use Rattle.std.proofs.lemmas.List.{flat_map_more, take_more}
use Rattle.p9_judge.specs.declared.breach.Step.{Step}
use Rattle.p9_judge.specs.Text.{step_text}
use Rattle.p9_judge.proofs.breach.BreachDisplay.fmt.Goals as goal

pub loop-step-preserved : goal.loop-step-preserved
loop-step-preserved g c = λ p.
    let steps = c.as_slice-step-items.result.now in
    let i = c.loop-step.step-index in
    let step = c.step-item.result in
    let line = λ (s : Step). step_text s ++ 10 ∷ [] in
    let more : flat_map line (take i steps) ++ line step ≡ flat_map line (take (i + 1) steps) =
    flat_map_more line [] (take i steps) step
    ∙ ap (λ ss. flat_map line ss)
    (sym (take_more steps i step c.loop-step-test.true
    ∙ ap (λ s. take i steps ++ s ∷ []) (sym c.step-item.is))) in
    has_written_of_eq _ _ _ _ _ more
    (has_written_append _ _ _ _ _ _ (c.loop-step.invariant p) (search rules))

-- A walk in words, and what is said of it.
use Rattle.std.proofs.Common.{◌≡◌, ℕ, ◌+◌, ◌<◌, ◌≤◌, List, [], ◌∷◌, ◌++◌, length, take, get_or, refl}
use Rattle.std.proofs.Common.{sym, ap, ◌∙◌, subst, append_assoc, append-nil}
use Rattle.std.proofs.lemmas.List.{take_all, take_more}
use Rattle.std.specs.Prelude.{codes}
use Rattle.p9_base.specs.declared.node_ref.NodeRef.{NodeRef}
use Rattle.p9_prepared.specs.Path.{path_of}
use Rattle.p9_judge.specs.declared.breach.BreachKind.{BreachKind}
use Rattle.p9_judge.specs.declared.breach.Step.{Step}
use Rattle.p9_shown.specs.Text.{shown_text}
use Rattle.p9_world.specs.World.{World}
use Rattle.p9_explain.specs.Free.{first_line}
use Rattle.p9_explain.specs.Passing.{passing_text}
use Rattle.p9_explain.specs.Told.{IsEndTold, IsStepTold, IsWalkTold, fault_of, fault_words}
use Rattle.p9_explain.proofs.Joins.{more}

-- a text that has grown by the parts of a step's line has grown by the line
step-line : (old begun wide right_told closed bound_told new : List ℕ)
    (named made right close bound end at said passed found : List ℕ)
    → named ≡ at → begun ≡ old ++ named → made ≡ said → wide ≡ begun ++ made → right ≡ passed
    → right_told ≡ wide ++ right → closed ≡ right_told ++ close → bound ≡ found
    → bound_told ≡ closed ++ bound → new ≡ bound_told ++ end
    → new ≡ old ++ (at ++ said ++ passed ++ close ++ found ++ end)
step-line old begun wide right_told closed bound_told new named made right close bound end at said passed
    found named_is e1 made_is e2 right_is e3 e4 bound_is e5 e6 =
    let s1 = e1 ∙ ap (λ p. old ++ p) named_is in
    let s2 = more old at said begun wide s1 (e2 ∙ ap (λ p. begun ++ p) made_is) in
    let s3 = more old (at ++ said) passed wide right_told s2 (e3 ∙ ap (λ p. wide ++ p) right_is) in
    let s4 = more old (at ++ said ++ passed) close right_told closed s3 e4 in
    let s5 = more old (at ++ said ++ passed ++ close) found closed bound_told s4
    (e5 ∙ ap (λ p. closed ++ p) bound_is) in
    more old (at ++ said ++ passed ++ close ++ found) end bound_told new s5 e6

end-line : (named wide closed blamed whole text made close words why end at said fault found : List ℕ)
    → named ≡ at → made ≡ said → wide ≡ named ++ made → closed ≡ wide ++ close → words ≡ fault
    → blamed ≡ closed ++ words → why ≡ found → whole ≡ blamed ++ why → text ≡ whole ++ end
    → text ≡ at ++ said ++ close ++ fault ++ found ++ end
end-line named wide closed blamed whole text made close words why end at said fault found named_is
    made_is e1 e2 words_is e3 why_is e4 e5 =
    rw (e5, e4, e3, e2, e1, named_is, made_is, words_is, why_is) refl

module _ (world : World) where
  -- the line of a step, by its parts
  pub step-pushed : (step : Step) (old begun wide right_told closed bound_told new : List ℕ)
      (named made right bound said_made said_bound : List ℕ)
      → named ≡ codes "  " ++ shown_text step.user ++ codes " passes "
      ++ shown_text (path_of world step.member)
      → begun ≡ old ++ named → made ≡ first_line said_made → wide ≡ begun ++ made
      → right ≡ passing_text world step.user step.member → right_told ≡ wide ++ right
      → closed ≡ right_told ++ codes ")" → bound ≡ first_line said_bound
      → bound_told ≡ closed ++ bound → new ≡ bound_told ++ codes "\n"
      → (line : List ℕ) × IsStepTold world step line × (new ≡ old ++ line)
  step-pushed step old begun wide right_told closed bound_told new named made right bound said_made
      said_bound named_is e1 made_is e2 right_is e3 e4 bound_is e5 e6 =
      let at : List ℕ =
      codes "  " ++ shown_text step.user ++ codes " passes " ++ shown_text (path_of world step.member) in (
        at ++ first_line said_made ++ passing_text world step.user step.member ++ codes ")"
            ++ first_line said_bound ++ codes "\n",
        (said_made, said_bound, refl),
        step-line old begun wide right_told closed bound_told new named made right (codes ")") bound
            (codes "\n") at (first_line said_made) (passing_text world step.user step.member)
            (first_line said_bound) named_is e1 made_is e2 right_is e3 e4 bound_is e5 e6,
      )

  -- the line of a member, by its parts
  pub end-told : (member : NodeRef) (kind : BreachKind)
      (named wide closed blamed whole text made words why said_made said_why : List ℕ)
      → named ≡ codes "  " ++ shown_text (path_of world member) → made ≡ first_line said_made
      → wide ≡ named ++ made → closed ≡ wide ++ codes ") " → words ≡ fault_words (fault_of kind)
      → blamed ≡ closed ++ words → why ≡ first_line said_why → whole ≡ blamed ++ why
      → text ≡ whole ++ codes "\n" → IsEndTold world member kind text
  end-told member kind named wide closed blamed whole text made words why said_made said_why named_is
      made_is e1 e2 words_is e3 why_is e4 e5 = (
        said_made,
        said_why,
        end-line named wide closed blamed whole text made (codes ") ") words why (codes "\n")
            (codes "  " ++ shown_text (path_of world member)) (first_line said_made)
            (fault_words (fault_of kind)) (first_line said_why) named_is made_is e1 e2 words_is e3
            why_is e4 e5,
      )

  -- a step more
  walk-push : (steps : List Step) (text : List ℕ) (step : Step) (line : List ℕ)
      → IsWalkTold world steps text → IsStepTold world step line
      → IsWalkTold world (steps ++ step ∷ []) (text ++ line)
  walk-push [] text step line walk told =
      (line, [], told, ap (λ t. t ++ line) walk ∙ sym (append-nil line), refl)
  walk-push (s ∷ steps) text step line walk told = (
    walk.0,
    walk.1 ++ line,
    walk.2,
    ap (λ t. t ++ line) walk.3 ∙ append_assoc walk.0 walk.1 line,
    walk-push steps walk.1 step line walk.4 told,
  )

  module _ (steps : List Step) (i : ℕ) (text : List ℕ) where
    pub walk-more : (d step : Step) (line after : List ℕ) → i < length steps
        → step ≡ get_or steps i d → after ≡ text ++ line → IsStepTold world step line
        → IsWalkTold world (take i steps) text → IsWalkTold world (take (i + 1) steps) after
    walk-more d step line after l at is told walk =
        let here : take i steps ++ step ∷ [] ≡ take (i + 1) steps =
        ap (λ s. take i steps ++ s ∷ []) at ∙ sym (take_more steps i d l) in
        subst (λ t. IsWalkTold world (take (i + 1) steps) t) (sym is)
        (subst (λ ss. IsWalkTold world ss (text ++ line)) here
        (walk-push (take i steps) text step line walk told))

    pub walk-all : length steps ≤ i → IsWalkTold world (take i steps) text
        → IsWalkTold world steps text
    walk-all l walk = subst (λ ss. IsWalkTold world ss text) (take_all i steps l) walk

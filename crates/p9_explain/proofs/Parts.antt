-- What is told, by its parts.
use Rattle.std.proofs.Common.{◌≡◌, ℕ, ◌≤◌, List, [], ◌∷◌, ◌++◌, append_assoc, get_or, length, sym, ap, ◌∙◌, arith}
use Rattle.std.specs.Prelude.{codes}
use Rattle.p9_base.specs.declared.node_ref.NodeRef.{NodeRef}
use Rattle.p9_prepared.specs.Refusal.{refusal_text}
use Rattle.p9_prepared.specs.declared.refusal.Refusal.{Refusal}
use Rattle.p9_judge.specs.declared.breach.Step.{Step}
use Rattle.p9_shown.specs.Text.{shown_text}
use Rattle.p9_space.specs.Place.{root_place}
use Rattle.p9_world.specs.World.{World}
use Rattle.p9_explain.specs.Certificate.{IsGapTold}
use Rattle.p9_explain.specs.Claim.{claim_about, paths_text, users_text}
use Rattle.p9_explain.specs.Explained.{IsRefusal}
use Rattle.p9_explain.specs.Free.{first_line, free_lines}
use Rattle.p9_explain.specs.Told.{path_text, start_text}
use Rattle.p9_explain.proofs.Joins.{five, three}

-- the claim about some directories
pub claim-some : (world : World) (users : List (List ℕ)) (hidden : List NodeRef)
    (old named inside text : List ℕ) → 1 ≤ length hidden → users ≡ world.users
    → named ≡ old ++ users_text users → inside ≡ named ++ codes " what is inside "
    → text ≡ inside ++ paths_text world hidden → text ≡ old ++ claim_about world hidden
claim-some world users [] old named inside text l users_is named_is inside_is text_is =
    absurd (omega arith)
claim-some world users (dir ∷ dirs) old named inside text l users_is named_is inside_is text_is =
    let paths = paths_text world (dir ∷ dirs) in
    let what = codes " what is inside " in
    text_is
    ∙ ap (λ i. i ++ paths) inside_is
    ∙ ap (λ n. (n ++ what) ++ paths) (named_is ∙ ap (λ u. old ++ users_text u) users_is)
    ∙ append_assoc (old ++ users_text world.users) what paths
    ∙ append_assoc old (users_text world.users) (what ++ paths)
    ∙ ap (λ t. old ++ t) (three (users_text world.users) what paths)

-- who attaches
pub start-some : (world : World) (steps : List Step) (step : Step) (first root text : List ℕ)
    → 1 ≤ length steps → step ≡ get_or steps 0 step → first ≡ shown_text step.user
    → root ≡ path_text world root_place
    → text ≡ codes "  " ++ (first ++ (codes " attaches at " ++ (root ++ codes "\n")))
    → text ≡ start_text world steps
start-some world [] step first root text l at first_is root_is written = absurd (omega arith)
start-some world (s ∷ steps) step first root text l at first_is root_is written =
    let blanks = codes "  " in
    let attaches = codes " attaches at " in
    let end = codes "\n" in
    written
    ∙ ap (λ f. blanks ++ (f ++ (attaches ++ (root ++ end))))
    (first_is ∙ ap (λ (it : Step). shown_text it.user) at)
    ∙ ap (λ r. blanks ++ (shown_text s.user ++ (attaches ++ (r ++ end)))) root_is
    ∙ five blanks (shown_text s.user) attaches (path_text world root_place) end

-- a gap
pub gap-told : (said again first made text : List ℕ) → first ≡ first_line said → again ≡ said
    → made ≡ codes "certificate: not accepted: " ++ (first ++ codes "\n")
    → text ≡ made ++ free_lines again → IsGapTold text
gap-told said again first made text first_is same made_is text_is =
    let begin = codes "certificate: not accepted: " in
    let end = codes "\n" in (
      said,
      text_is
          ∙ ap (λ m. m ++ free_lines again) (made_is ∙ ap (λ f. begin ++ (f ++ end)) first_is)
          ∙ ap (λ s. (begin ++ (first_line said ++ end)) ++ free_lines s) same
          ∙ ap (λ t. t ++ free_lines said) (three begin (first_line said) end),
    )

-- a refusal
pub refusal-told : (refusal : Refusal) (reason faults text : List ℕ) → reason ≡ refusal_text refusal
    → text ≡ codes "refused: " ++ (reason ++ (codes "\n" ++ faults)) → IsRefusal refusal text
refusal-told refusal reason faults text reason_is written =
    let begin = codes "refused: " in
    let end = codes "\n" in
    let said = refusal_text refusal in (
      faults,
      written
          ∙ ap (λ r. begin ++ (r ++ (end ++ faults))) reason_is
          ∙ ap (λ t. begin ++ t) (sym (append_assoc said end faults))
          ∙ sym (append_assoc begin (said ++ end) faults),
    )

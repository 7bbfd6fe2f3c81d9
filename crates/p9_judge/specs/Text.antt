-- The lines of a breach.
use Rattle.std.specs.Prelude.{ℕ, List, ◌∷◌, [], ◌++◌, codes}
use Rattle.std.specs.List.{flat_map}
use Rattle.p9_base.specs.declared.node_ref.NodeRef.{NodeRef}
use Rattle.p9_cert.specs.Gap.{node_text}
use Rattle.p9_judge.specs.declared.breach.BreachKind.{BreachKind}
use Rattle.p9_judge.specs.declared.breach.BreachKind.TheVariants.{Inside, Open, Owned, Removable}
use Rattle.p9_judge.specs.declared.breach.Step.{Step}

abbrev pub kind_text : BreachKind → List ℕ
kind_text Inside = codes "inside"
kind_text Open = codes "open"
kind_text Owned = codes "owned"
kind_text Removable = codes "removable"

-- the line of a step
abbrev pub step_text : Step → List ℕ
step_text step =
    codes "step " ++ node_text step.member ++ codes " " ++ step.user ++ codes " " ++ step.name

-- a line for each step, and then one for the member; the last one has no newline
abbrev pub breach_text : List Step → NodeRef → BreachKind → List ℕ
breach_text steps member kind =
    flat_map (λ step. step_text step ++ 10 ∷ []) steps
    ++ codes "breach " ++ kind_text kind ++ codes " " ++ node_text member

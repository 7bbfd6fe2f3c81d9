-- Judgements, as they are printed.
use Rattle.std.specs.Prelude.{◌≡◌, ℕ, List, ◌++◌, Option, Some, None, codes}
use Rattle.std.specs.List.{AllByRecursion}
use Rattle.p9_base.specs.declared.node_ref.NodeRef.{NodeRef}
use Rattle.p9_cert.specs.Gap.{gap_text}
use Rattle.p9_cert.specs.Policy.{policy_of}
use Rattle.p9_cert.specs.Text.{certificate_text}
use Rattle.p9_cert.specs.declared.gap.Gap.{Gap}
use Rattle.p9_judge.specs.Breach.{IsBreach, IsByFirst}
use Rattle.p9_judge.specs.Text.{breach_text}
use Rattle.p9_judge.specs.Verdict.{IsLeast}
use Rattle.p9_judge.specs.declared.breach.BreachKind.{BreachKind}
use Rattle.p9_judge.specs.declared.breach.Step.{Step}
use Rattle.p9_judge.specs.declared.verdict.Verdict.{Verdict}
use Rattle.p9_judge.specs.declared.verdict.Verdict.TheVariants.{Yes, No}
use Rattle.p9_prepared.specs.NameSpace.{NameSpace, gap_over}

-- this text is printed, and the exit status is this one
abbrev pub IsPrinted : (status : ℕ) (text before after : List ℕ) (result : ℕ) → Type 0
IsPrinted status text before after result = (result ≡ status) × (after ≡ before ++ text)

-- What the judge says.

-- yes, and the certificate
abbrev pub yes_text : List NodeRef → List ℕ
yes_text rows = codes "yes\n" ++ certificate_text rows

-- no, and the breach
abbrev pub no_text : List Step → NodeRef → BreachKind → List ℕ
no_text steps member kind = codes "no\n" ++ (breach_text steps member kind ++ codes "\n")

abbrev pub verdict_text : {A : Type 0} → Verdict A → List ℕ
verdict_text (Yes rows) = yes_text rows
verdict_text (No breach) = no_text breach.steps.items breach.member breach.kind

abbrev pub verdict_status : {A : Type 0} → Verdict A → ℕ
verdict_status (Yes rows) = 0
verdict_status (No breach) = 1

-- it says yes: the certificate has no gap, and its rows are in every closed one
pub record SaysYes (space : NameSpace) (before after : List ℕ) (status : ℕ) : Type 0 where
  pub rows : List NodeRef
  pub printed : IsPrinted 0 (yes_text rows) before after status
  pub closed : gap_over space rows ≡ None
  pub least : IsLeast (policy_of space.world) space.world.forest space.table rows

-- it says no: the breach is one, and each step's user is the first listed one who may pass
pub record SaysNo (space : NameSpace) (before after : List ℕ) (status : ℕ) : Type 0 where
  pub steps : List Step
  pub member : NodeRef
  pub kind : BreachKind
  pub printed : IsPrinted 1 (no_text steps member kind) before after status
  pub breach : IsBreach (policy_of space.world) space.world.forest space.table steps member kind
  pub by_first : AllByRecursion (IsByFirst (policy_of space.world) space.world.forest) steps

-- What the checker says.

-- the first gap of a certificate, or that it has none
abbrev pub verified_text : Option Gap → List ℕ
verified_text None = codes "ok\n"
verified_text (Some gap) = gap_text gap ++ codes "\n"

abbrev pub verified_status : Option Gap → ℕ
verified_status None = 0
verified_status (Some gap) = 1

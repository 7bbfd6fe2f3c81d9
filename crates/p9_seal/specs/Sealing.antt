-- The sealing of an input.
use Rattle.std.specs.Prelude.{◌≡◌, ℕ, Bool, true, false, List, Some, None, Ok, Err}
use Rattle.std.specs.Prelude.{IsTrue}
use Rattle.std.specs.List.{AllByRecursion}
use Rattle.p9_base.specs.declared.node_ref.NodeRef.{NodeRef}
use Rattle.p9_cert.specs.Policy.{policy_of}
use Rattle.p9_cert.specs.Rows.{is_row}
use Rattle.p9_cert.specs.Text.{certificate_text}
use Rattle.p9_fixed.specs.Fixed.{IsFixed}
use Rattle.p9_fixed.specs.declared.change.Change.{Change}
use Rattle.p9_judge.specs.Breach.{IsBreach, IsByFirst}
use Rattle.p9_judge.specs.Verdict.{IsLeast}
use Rattle.p9_judge.specs.declared.breach.Breach.{Breach}
use Rattle.p9_step.specs.Event.{Event}
use Rattle.p9_prepared.specs.Bundle.{Texts, bundle_of}
use Rattle.p9_prepared.specs.NameSpace.{NameSpace, gap_over}
use Rattle.p9_prepared.specs.Prepared.{prepared_of, space_of}
use Rattle.p9_prepared.specs.Small.{is_blank_input}
use Rattle.p9_prepared.specs.declared.prepared.Needs.{Needs}
use Rattle.p9_seal.specs.Error.{change_against, vacuity_against}
use Rattle.p9_seal.specs.Sections.{HasCertificate}
use Rattle.p9_seal.specs.Text.{sealed_text}
use Rattle.p9_seal.specs.declared.error.Vacuity.{Vacuity}
use Rattle.p9_seal.specs.declared.error.SealError.{SealError}
use Rattle.p9_seal.specs.declared.error.SealError.TheVariants.{Empty, Refused, No, Vacuous}
use Rattle.p9_seal.specs.declared.error.SealError.TheVariants.{Changeable, NoMemory}
use Rattle.p9_seal.specs.declared.wishes.Wishes.{Wishes}

-- What is said of a name space.

-- the rows are a certificate without a gap, and the least one
pub record IsYes (space : NameSpace) (rows : List NodeRef) : Type 0 where
  pub closed : gap_over space rows ≡ None
  pub least : IsLeast (policy_of space.world) space.world.forest space.table rows

-- what is hidden is within reach, and each step's user is the first listed one who may pass
pub record IsNo {A : Type 0} (space : NameSpace) (breach : Breach A) : Type 0 where
  pub way : IsBreach (policy_of space.world) space.world.forest space.table breach.steps.items
      breach.member breach.kind
  pub by_first : AllByRecursion (IsByFirst (policy_of space.world) space.world.forest)
      breach.steps.items

-- a yes that says something, unless it is wished anyway; and where a fixed name space is wished, it
-- is one
pub record IsWished (space : NameSpace) (wishes : Wishes) (rows : List NodeRef) : Type 0 where
  pub yes : IsYes space rows
  pub telling : vacuity_against wishes.anyway space ≡ None
  pub fixed : IsTrue wishes.fixed
      → IsFixed (policy_of space.world) space.world.forest space.table (is_row rows)

-- What is written.

-- the output is a bundle of the same sections, but for the certificate, which is this text
pub record IsBundleWith (input certificate output : List ℕ) : Type 0 where
  pub texts : Texts
  pub sealed : Texts
  pub before : bundle_of input ≡ Ok texts
  pub after : bundle_of output ≡ Ok sealed
  pub same : HasCertificate certificate texts sealed

-- the output is the input with the text of a closed certificate over its name space; it is prepared
-- as that name space with that certificate, whatever is needed
pub record IsSealed (input : List ℕ) (wishes : Wishes) (output : List ℕ) : Type 0 where
  pub space : NameSpace
  pub rows : List NodeRef
  pub events : List Event
  pub some : is_blank_input input ≡ false
  pub read : space_of input ≡ Ok space
  pub wished : IsWished space wishes rows
  pub written : output ≡ sealed_text input (certificate_text rows)
  pub sections : IsBundleWith input (certificate_text rows) output
  pub prepared : (needs : Needs)
      → prepared_of needs output ≡ Ok (record { space = space; rows = Some rows; events = events })

-- the text is a bundle
abbrev pub IsBundle : List ℕ → Type 0
IsBundle text = (texts : Texts) × (bundle_of text ≡ Ok texts)

-- the input is a bundle, and the rows are a certificate over its name space as it is wished
pub record IsSealable (input : List ℕ) (wishes : Wishes) (rows : List NodeRef) : Type 0 where
  pub space : NameSpace
  pub bundle : IsBundle input
  pub read : space_of input ≡ Ok space
  pub wished : IsWished space wishes rows

-- Why nothing is written.

-- the yes, which these rows show, says little
pub record IsVacuous (space : NameSpace) (wishes : Wishes) (vacuity : Vacuity) : Type 0 where
  pub rows : List NodeRef
  pub yes : IsYes space rows
  pub against : vacuity_against wishes.anyway space ≡ Some vacuity

-- the yes, which these rows show, says something, but a fixed name space is wished, and this is the
-- first node that some listed user can change
pub record IsChangeable (space : NameSpace) (wishes : Wishes) (change : Change) : Type 0 where
  pub rows : List NodeRef
  pub yes : IsYes space rows
  pub telling : vacuity_against wishes.anyway space ≡ None
  pub against : change_against wishes.fixed space rows ≡ Some change

-- why there is no such certificate over a name space
abbrev pub IsUnsealed : {A : Type 0} → (space : NameSpace) (wishes : Wishes) → SealError A → Type 0
IsUnsealed space wishes Empty = ⊥
IsUnsealed space wishes (Refused refusal) = ⊥
IsUnsealed space wishes (No breach) = IsNo space breach
IsUnsealed space wishes (Vacuous vacuity) = IsVacuous space wishes vacuity
IsUnsealed space wishes (Changeable change) = IsChangeable space wishes change
IsUnsealed space wishes NoMemory = Unit {0}

-- the input is empty, or has a first fault, or there is no such certificate over its name space
abbrev pub IsSealError : {A : Type 0} → (input : List ℕ) (wishes : Wishes) → SealError A → Type 0
IsSealError input wishes Empty = is_blank_input input ≡ true
IsSealError input wishes (Refused refusal) = space_of input ≡ Err refusal
IsSealError input wishes (No breach) =
    (space : NameSpace) × (space_of input ≡ Ok space) × IsNo space breach
IsSealError input wishes (Vacuous vacuity) =
    (space : NameSpace) × (space_of input ≡ Ok space) × IsVacuous space wishes vacuity
IsSealError input wishes (Changeable change) =
    (space : NameSpace) × (space_of input ≡ Ok space) × IsChangeable space wishes change
IsSealError input wishes NoMemory = Unit {0}

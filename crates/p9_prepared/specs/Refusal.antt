-- Why an input is refused, and how that is reported.
use Rattle.std.specs.Prelude.{◌≡◌, ℕ, List, [], ◌∷◌, ◌++◌, Option, Some, Result, Ok, Err, codes}
use Rattle.std.specs.Fmt.{decimal}
use Rattle.p9_world.specs.Error.{line_fault_text}
use Rattle.p9_nsline.specs.Text.{form_text}
use Rattle.p9_cert.specs.Gap.{gap_text}
use Rattle.p9_cert.specs.declared.gap.Gap.{Gap}
use Rattle.p9_prepared.specs.declared.refusal.Refusal.{Refusal}
use Rattle.p9_prepared.specs.declared.refusal.Refusal.TheVariants.{NotUtf8, BadSection}
use Rattle.p9_prepared.specs.declared.refusal.Refusal.TheVariants.{BadWorld, BadOperation, BadEvent}
use Rattle.p9_prepared.specs.declared.refusal.Refusal.TheVariants.{BadCertificate, NoCertificate}
use Rattle.p9_prepared.specs.declared.refusal.Refusal.TheVariants.{Unverified}
use Rattle.p9_base.specs.declared.stop.Stop.{Stop}
use Rattle.p9_base.specs.declared.stop.Stop.TheVariants.{Refused, NoMemory}

-- what is bad is refused under this name
abbrev pub or_refused : {X E : Type 0} → (E → Refusal) → Result X E → Result X Refusal
or_refused refusal (Ok value) = Ok value
or_refused refusal (Err bad) = Err (refusal bad)

-- an error says that an allocation failed, or why the input is refused
abbrev pub IsStop : {X : Type 0} → Result X Refusal → Stop Refusal → Type 0
IsStop asked NoMemory = Unit {0}
IsStop asked (Refused refusal) = asked ≡ Err refusal

-- an error says that an allocation failed, or that this is the certificate's first gap
abbrev pub IsUnverified : Option Gap → Stop Refusal → Type 0
IsUnverified gap NoMemory = Unit {0}
IsUnverified gap (Refused refusal) =
    (found : Gap) × (gap ≡ Some found) × (refusal ≡ Unverified found)

-- what is reported of a line of a section
abbrev pub at_line : (section : List ℕ) (line : ℕ) (text : List ℕ) → List ℕ
at_line section line text = section ++ codes ":" ++ decimal line ++ codes ": " ++ text

-- the text that reports a refusal
abbrev pub refusal_text : Refusal → List ℕ
refusal_text NotUtf8 = codes "input: not UTF-8"
refusal_text (BadSection line) = at_line (codes "bundle") line (codes "bad section")
refusal_text (BadWorld line kind) = at_line (codes "world") line (line_fault_text kind)
refusal_text (BadOperation line kind) = at_line (codes "ns") line (form_text kind)
refusal_text (BadCertificate line) = at_line (codes "cert") line (codes "bad line")
refusal_text NoCertificate = codes "cert: missing"
refusal_text (BadEvent line) = at_line (codes "script") line (codes "bad line")
refusal_text (Unverified gap) = codes "cert: " ++ gap_text gap

-- the line that reports a refusal
abbrev pub refusal_line : Refusal → List ℕ
refusal_line refusal = refusal_text refusal ++ 10 ∷ []

-- a refusal is reported in one line more; a failed allocation never is
abbrev pub ReportsStop : Stop Refusal → (before after : List ℕ) → Type 0
ReportsStop NoMemory before after = ⊥
ReportsStop (Refused refusal) before after = after ≡ before ++ refusal_line refusal

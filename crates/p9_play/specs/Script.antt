-- Why a script is not played.
use Rattle.std.specs.Prelude.{◌≡◌, ℕ, List, Option}
use Rattle.p9_base.specs.declared.stop.Stop.{Stop}
use Rattle.p9_base.specs.declared.stop.Stop.TheVariants.{Refused, NoMemory}
use Rattle.p9_cert.specs.declared.gap.Gap.{Gap}
use Rattle.p9_prepared.specs.Refusal.{IsUnverified}
use Rattle.p9_prepared.specs.declared.refusal.Refusal.{Refusal}

-- an allocation failed; or this is the certificate's first gap, and nothing is printed
abbrev pub IsUnplayed : Option Gap → (before after : List ℕ) → Stop Refusal → Type 0
IsUnplayed gap before after NoMemory = Unit {0}
IsUnplayed gap before after (Refused refusal) =
    IsUnverified gap (Refused refusal) × (after ≡ before)

-- The guard that a certificate gives.
use Rattle.std.proofs.Common.{◌≡◌, ℕ, List, Option, None, Result, Ok, Err, refl}
use Rattle.std.specs.Prelude.{IfErr, IfOk, OnOk}
use Rattle.p9_base.specs.declared.node_ref.NodeRef.{NodeRef}
use Rattle.p9_cert.specs.declared.gap.Gap.{Gap}
use Rattle.p9_guard.specs.Guard.{Guarded}
use Rattle.p9_prepared.specs.NameSpace.{NameSpace, gap_over}
use Rattle.p9_play.specs.Guards.{guard_over, guarded}
use Rattle.p9_play.specs.Script.{IsUnplayed}
use Rattle.p9_prepared.specs.Refusal.{IsStop, IsUnverified}
use Rattle.p9_prepared.specs.declared.refusal.Refusal.{Refusal}
use Rattle.p9_base.specs.declared.stop.Stop.{Stop}
use Rattle.p9_base.specs.declared.stop.Stop.TheVariants.{Refused, NoMemory}

-- a certificate without a gap gives the guard, and one with a gap none
module _ (space : NameSpace) (rows : List NodeRef) where
  pub guard-ok : (result : Result Guarded (Stop Refusal))
      → IfOk result (λ guard. guard ≡ guard_over space rows)
      → OnOk result (gap_over space rows ≡ None)
      → IfOk result (λ guard. guarded space rows ≡ Ok guard)
  guard-ok (Ok guard) made none = rw (none, made) refl
  guard-ok (Err stop) made none = tt

  pub guard-stop : (result : Result Guarded (Stop Refusal))
      → IfErr result (IsUnverified (gap_over space rows))
      → IfErr result (IsStop (guarded space rows))
  guard-stop (Ok guard) is = tt
  guard-stop (Err NoMemory) is = tt
  guard-stop (Err (Refused refusal)) is = rw (is.1, is.2) refl

-- a gap is the reason, and nothing was printed
pub not-played : (gap : Option Gap) (before after : List ℕ) (stop : Stop Refusal)
    → IsUnverified gap stop → after ≡ before → IsUnplayed gap before after stop
not-played gap before after NoMemory is same = tt
not-played gap before after (Refused refusal) is same = (is, same)

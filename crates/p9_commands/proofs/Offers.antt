-- What an input offers to a server.
use Rattle.std.proofs.Common.{◌≡◌, ℕ, [], ◌++◌, List, Option, Some, None, Result, Ok, Err}
use Rattle.std.proofs.Common.{refl, sym, subst}
use Rattle.p9_base.specs.Results.{and_then}
use Rattle.p9_guard.specs.Guard.{Guarded}
use Rattle.p9_commands.proofs.Ends.{joined, moved}
use Rattle.p9_commands.specs.Offer.{Offer, Serves, offer_in}
use Rattle.p9_play.specs.Guards.{guard_in}
use Rattle.p9_prepared.specs.Prepared.{Prepared, Rejected, with_reports}
use Rattle.p9_prepared.specs.Refusal.{IsStop, ReportsStop}
use Rattle.p9_prepared.specs.Report.{reports_text}
use Rattle.p9_prepared.specs.declared.refusal.Refusal.{Refusal}
use Rattle.p9_base.specs.declared.stop.Stop.{Stop}
use Rattle.p9_base.specs.declared.stop.Stop.TheVariants.{Refused, NoMemory}

module _ (before between after : List ℕ) (prepared : Prepared)
    (reported : between ≡ before ++ reports_text prepared.space.reports) where
  -- what is offered, where this is the guard
  abbrev by_guard : Result Guarded Refusal → Result Offer Rejected
  by_guard found =
      and_then (with_reports prepared.space.reports found)
      (λ guard. Ok (record { reports = prepared.space.reports; guard = guard }))

  -- a guard
  pub guard-offered : (guard : Guarded) → guard_in prepared ≡ Ok guard
      → Serves (offer_in prepared) before between (Some guard)
  guard-offered guard is =
      subst (λ (found : Result Guarded Refusal). Serves (by_guard found) before between (Some guard))
      (sym is) (refl, reported)

  -- no guard
  pub none-offered : (stop : Stop Refusal) → IsStop (guard_in prepared) stop
      → ReportsStop stop between after → Serves (offer_in prepared) before after None
  none-offered NoMemory is printed = absurd printed
  none-offered (Refused refusal) is printed =
      subst (λ (found : Result Guarded Refusal). Serves (by_guard found) before after None)
      (sym is) (joined before between after prepared.space.reports reported refusal printed)

-- what is reported of an offer after nothing may be appended to another text
pub offer-moved : (offered : Result Offer Rejected) (none printed before after : List ℕ)
    (guard : Option Guarded) → none ≡ [] → after ≡ before ++ printed
    → Serves offered none printed guard → Serves offered before after guard
offer-moved (Ok offer) none printed before after (Some guard) empty appended serves =
    (serves.0, moved none printed before after empty appended _ serves.1)
offer-moved (Ok offer) none printed before after None empty appended serves = absurd serves
offer-moved (Err rejected) none printed before after (Some guard) empty appended serves =
    absurd serves
offer-moved (Err rejected) none printed before after None empty appended serves =
    moved none printed before after empty appended _ serves

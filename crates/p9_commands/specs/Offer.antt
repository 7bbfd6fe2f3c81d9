-- What an input offers to a server: the guard over its name space, where its certificate is closed.
use Rattle.std.specs.Prelude.{◌≡◌, ℕ, List, ◌++◌, Option, Some, None, Result, Ok, Err}
use Rattle.p9_base.specs.Results.{and_then}
use Rattle.p9_guard.specs.Guard.{Guarded}
use Rattle.p9_nsline.specs.Space.{Report}
use Rattle.p9_play.specs.Guards.{guard_in}
use Rattle.p9_prepared.specs.Prepared.{Prepared, Rejected, prepared_of, rejected_text}
use Rattle.p9_prepared.specs.Prepared.{with_reports}
use Rattle.p9_prepared.specs.Report.{reports_text}
use Rattle.p9_prepared.specs.declared.prepared.Needs.TheVariants.{Certificate}

-- a guard that is to be served, and what failed in the making of its name space
pub record Offer : Type 0 where
  pub reports : List Report
  pub guard : Guarded

-- an offer, or the first fault of the input
abbrev pub Offered : Type 0
Offered = Result Offer Rejected

-- what an input offers that is prepared
abbrev pub offer_in : Prepared → Result Offer Rejected
offer_in prepared =
    and_then (with_reports prepared.space.reports (guard_in prepared))
    (λ guard. Ok (record { reports = prepared.space.reports; guard = guard }))

-- what an input offers: it needs a certificate, and its script is read and not played
abbrev pub offer_of : List ℕ → Result Offer Rejected
offer_of input = and_then (prepared_of Certificate input) offer_in

-- the guard is this one, and what failed is reported; or the fault is reported, and there is none
abbrev pub Serves : Result Offer Rejected → (before after : List ℕ) → Option Guarded → Type 0
Serves (Ok offer) before after (Some guard) =
    (guard ≡ offer.guard) × (after ≡ before ++ reports_text offer.reports)
Serves (Ok offer) before after None = ⊥
Serves (Err rejected) before after (Some guard) = ⊥
Serves (Err rejected) before after None = after ≡ before ++ rejected_text rejected

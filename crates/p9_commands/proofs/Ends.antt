-- What comes of an input, by what its preparation came to.
use Rattle.std.proofs.Common.{◌≡◌, ℕ, List, [], ◌++◌, Option, Some, None, IfOk, Result, Ok, Err}
use Rattle.std.proofs.Common.{refl, ap, subst, ◌∙◌, append_assoc}
use Rattle.std.specs.Option.{option_map_or}
use Rattle.p9_base.specs.Results.{and_then}
use Rattle.p9_cert.specs.declared.gap.Gap.{Gap}
use Rattle.p9_nsline.specs.Space.{Report}
use Rattle.p9_commands.specs.Command.{CommandEnds, Printed, Works, Writes, admitted, gap_against}
use Rattle.p9_play.specs.Script.{IsUnplayed}
use Rattle.p9_prepared.specs.Prepared.{IsReported, Prepared, Rejected, prepared_of, rejected_text}
use Rattle.p9_prepared.specs.Refusal.{ReportsStop, refusal_line}
use Rattle.p9_prepared.specs.Report.{reports_text}
use Rattle.p9_commands.specs.declared.command.Command.{Command}
use Rattle.p9_commands.specs.declared.command.Command.TheVariants.{Play}
use Rattle.p9_prepared.specs.declared.prepared.Needs.{Needs}
use Rattle.p9_prepared.specs.declared.refusal.Refusal.{Refusal}
use Rattle.p9_prepared.specs.declared.refusal.Refusal.TheVariants.{Unverified}
use Rattle.p9_base.specs.declared.stop.Stop.{Stop}
use Rattle.p9_base.specs.declared.stop.Stop.TheVariants.{Refused, NoMemory}

-- A text that was printed after an empty one is appended to another.
module _ (none printed before after : List ℕ) (empty : none ≡ [])
    (appended : after ≡ before ++ printed) where
  pub moved : (text : List ℕ) → printed ≡ none ++ text → after ≡ before ++ text
  moved text is =
      appended ∙ ap (λ t. before ++ t) (is ∙ ap (λ n. n ++ text) empty)

module _ (before between after : List ℕ) (reports : List Report)
    (reported : between ≡ before ++ reports_text reports) where
  -- a fault is reported after the reports
  pub joined : (refusal : Refusal) → after ≡ between ++ refusal_line refusal
      → after ≡ before ++ rejected_text (record { reports = reports; refusal = refusal })
  joined refusal is =
      is ∙ ap (λ b. b ++ refusal_line refusal) reported
      ∙ append_assoc before (reports_text reports) (refusal_line refusal)

-- What follows the preparation.
module _ {X : Type 0} (Q : Result X Rejected → Type 0) (next : Prepared → Result X Rejected)
    (before after : List ℕ) where
  pub after-prepared : (needs wanted : Needs) → needs ≡ wanted → (input : List ℕ)
      (found : Option Prepared) (prepared : Prepared) → found ≡ Some prepared
      → IsReported (prepared_of needs input) before after found
      → (after ≡ before ++ reports_text prepared.space.reports → Q (next prepared))
      → Q (and_then (prepared_of wanted input) next)
  after-prepared needs wanted same input found prepared is reported holds =
      go (prepared_of wanted input)
      (subst (λ (n : Needs). IsReported (prepared_of n input) before after (Some prepared)) same
      (subst (λ (o : Option Prepared). IsReported (prepared_of needs input) before after o) is
      reported))
    where
      go : (asked : Result Prepared Rejected) → IsReported asked before after (Some prepared)
          → Q (and_then asked next)
      go (Ok p) told = subst (λ (p : Prepared). Q (next p)) told.0 (holds told.1)
      go (Err rejected) told = absurd told

-- A command over a prepared input.
module _ (command : Command) (p : Printed) (prepared : Prepared) (between : List ℕ)
    (reported : between ≡ p.err_before ++ reports_text prepared.space.reports) where
  -- what is asked, where this is the gap against it
  abbrev by_gap : Option Gap → Result Prepared Rejected
  by_gap gap =
      option_map_or
      (λ g. Err (record { reports = prepared.space.reports; refusal = Unverified g }))
      gap (Ok prepared)

  -- its work ends it
  worked : (gap : Option Gap) (status : ℕ)
      → Works command prepared gap status (record p { err_before = between })
      → CommandEnds command (by_gap gap) status p
  worked None status works = (works.0 ∙ reported, works.1)
  worked (Some gap) status works = (
    works.0,
    joined p.err_before between p.err prepared.space.reports reported (Unverified gap) works.1,
    works.2,
  )

  pub work-ends : {E : Type 0} (result : Result ℕ E)
      → IfOk result (λ status. Works command prepared (gap_against command prepared) status
      (record p { err_before = between }))
      → IfOk result (λ status. CommandEnds command (admitted command prepared) status p)
  work-ends (Ok status) works = worked (gap_against command prepared) status works
  work-ends (Err error) works = tt

-- work that reports nothing
pub silent-works : {E : Type 0} (command : Command) (seen prepared : Prepared) → seen ≡ prepared
    → (p : Printed) (result : Result ℕ E) → p.err ≡ p.err_before
    → IfOk result (λ status. Writes command seen status p.out_before p.out)
    → IfOk result (λ status. Works command prepared None status p)
silent-works command seen prepared is p (Ok status) same writes =
    (same, subst (λ (q : Prepared). Writes command q status p.out_before p.out) is writes)
silent-works command seen prepared is p (Err error) same writes = tt

-- a script is not played with a certificate that has a gap
pub unplayed : (prepared : Prepared) (gap : Option Gap) (p : Printed) (stop : Stop Refusal)
    → IsUnplayed gap p.out_before p.out stop → ReportsStop stop p.err_before p.err
    → Works Play prepared gap 1 p
unplayed prepared gap p NoMemory is reported = absurd reported
unplayed prepared gap p (Refused refusal) is reported =
    rw is.0.1 (refl, reported ∙ ap (λ r. p.err_before ++ refusal_line r) is.0.2, is.1)

-- Two inputs that differ only inside hidden directories, served side by side.
use Rattle.std.proofs.Common.{◌≡◌, ℕ, List, [], ◌∷◌, ◌++◌, Option, Some, None, Result, Ok, Err}
use Rattle.std.proofs.Common.{refl, sym, ap, ◌∙◌, subst, ◌+◌}
use Rattle.std.specs.Prelude.{map}
use Rattle.std.specs.List.{enumerate_from}
use Rattle.std.specs.Option.{option_map_or}
use Rattle.p9_base.specs.Results.{and_then}
use Rattle.p9_base.specs.declared.node_ref.NodeRef.{NodeRef}
use Rattle.p9_tree.specs.Inside.{outer, outer_server, hidden_on}
use Rattle.p9_tree.specs.Server.{Server}
use Rattle.p9_cert.specs.Gap.{first_gap}
use Rattle.p9_cert.specs.declared.gap.Gap.{Gap}
use Rattle.p9_guard.specs.Guard.{Guarded}
use Rattle.p9_guard.proofs.Sentences.{starts-guarded}
use Rattle.p9_guard_laws.specs.Alike.{AreAlike}
use Rattle.p9_guard_laws.proofs.Begins.{alike_verified}
use Rattle.p9_clients.specs.Serving.{in_state}
use Rattle.p9_play.specs.Guards.{exported, guard_over, guarded}
use Rattle.p9_prepared.specs.NameSpace.{gap_over}
use Rattle.p9_commands.specs.Offer.{Serves, offer_in, offer_of}
use Rattle.p9_prepared.specs.Prepared.{Prepared, Rejected, with_reports}
use Rattle.p9_prepared.specs.Report.{reports_text}
use Rattle.p9_prepared.specs.declared.prepared.Needs.TheVariants.{Certificate}
use Rattle.p9_prepared.specs.declared.refusal.Refusal.TheVariants.{NoCertificate, Unverified}
use Rattle.p9_input_laws.specs.Laws.{PreparedInputsAreWellFormed}
use Rattle.p9_serve.specs.Rounds.{untold}
use Rattle.p9_serve.specs.Run.{ClientSocket}
use Rattle.p9_serve_laws.specs.Inputs.{AlikeInputsAreServedTheSame, AlikeInputsMayBeServedTheSame}
use Rattle.p9_serve_laws.specs.Inputs.{ArePreparedToServe}
use Rattle.p9_serve_laws.proofs.Likewise.{alike-guards-may-be-served-the-same}
use Rattle.p9_serve_laws.proofs.Rounds.{choosers-are-served-the-same}

-- What an input offers.

-- an input has a certificate without a gap, and offers the guard by it
record IsOffered (p : Prepared) (reports : List ℕ) (guard : Guarded) : Type 0 where
  rows : List NodeRef
  rows_are : p.rows ≡ Some rows
  closed : gap_over p.space rows ≡ None
  guard_is : guard ≡ guard_over p.space rows
  reports_are : reports ≡ [] ++ reports_text p.space.reports

offered : (p : Prepared) (reports : List ℕ) (guard : Guarded)
    → Serves (offer_in p) [] reports (Some guard) → IsOffered p reports guard
offered p reports guard serves = by-rows p.rows refl serves
  where
    by-gap : (rows : List NodeRef) → p.rows ≡ Some rows → (gap : Option Gap)
        → gap_over p.space rows ≡ gap
        → Serves (and_then (with_reports p.space.reports
        (option_map_or (λ gap. Err (Unverified gap)) gap (Ok (guard_over p.space rows))))
        (λ guard. Ok (record { reports = p.space.reports; guard = guard }))) [] reports (Some guard)
        → IsOffered p reports guard
    by-gap rows is (Some gap) e t = absurd t
    by-gap rows is None e t = record {
      rows = rows;
      rows_are = is;
      closed = e;
      guard_is = t.0;
      reports_are = t.1;
    }

    by-rows : (rows : Option (List NodeRef)) → p.rows ≡ rows
        → Serves (and_then (with_reports p.space.reports
        (option_map_or (guarded p.space) rows (Err NoCertificate)))
        (λ guard. Ok (record { reports = p.space.reports; guard = guard }))) [] reports (Some guard)
        → IsOffered p reports guard
    by-rows None is t = absurd t
    by-rows (Some rows) is t = by-gap rows is (gap_over p.space rows) refl t

-- and the other way round
offers : (p : Prepared) (reports : List ℕ) (guard : Guarded) → IsOffered p reports guard
    → Serves (offer_in p) [] reports (Some guard)
offers p reports guard its =
    rw (its.rows_are, its.closed) (its.guard_is, its.reports_are)

-- The next numbers at the start.

nexts-outer : (hidden : List NodeRef) (f : List Server) (k : ℕ)
    → map (λ (s : Server). s.next)
    (map (λ (s : ℕ × Server). outer_server (hidden_on s.0 hidden) s.1) (enumerate_from k f))
    ≡ map (λ (s : Server). s.next) f
nexts-outer hidden [] k = refl
nexts-outer hidden (s ∷ f) k = ap (λ (more : List ℕ). s.next ∷ more) (nexts-outer hidden f (k + 1))

nexts : (hidden : List NodeRef) (f : List Server)
    → map (λ (s : Server). s.next) (outer hidden f) ≡ map (λ (s : Server). s.next) f
unfolding outer
nexts hidden f = nexts-outer hidden f 0

module _ (well : PreparedInputsAreWellFormed) (input other : List ℕ) (a b : Prepared)
    (both : ArePreparedToServe input other a b) where
  alike : AreAlike a.space.world.hidden (exported a.space) (exported b.space)
  alike = record {
    sound = (well Certificate other b both.second).space.forest;
    setting = both.alike.setting;
    sessions = refl;
    others = both.alike.others;
    members = both.alike.members;
    places = tt;
  }

  served-first : (reports : List ℕ) (guard : Guarded)
      → Serves (offer_of input) [] reports (Some guard) → IsOffered a reports guard
  served-first reports guard serves =
      offered a reports guard
      (subst (λ (found : Result Prepared Rejected).
      Serves (and_then found offer_in) [] reports (Some guard)) both.first serves)

  served-second : (reports : List ℕ) (guard : Guarded)
      → Serves (offer_of other) [] reports (Some guard) → IsOffered b reports guard
  served-second reports guard serves =
      offered b reports guard
      (subst (λ (found : Result Prepared Rejected).
      Serves (and_then found offer_in) [] reports (Some guard)) both.second serves)

  -- the guards that both offer are in alike states
  alike-offered : (reports reports' : List ℕ) (guard guard' : Guarded) → IsOffered a reports guard
      → IsOffered b reports' guard' → AreAlike guard.hidden guard.state guard'.state
  alike-offered reports reports' guard guard' its its' =
      subst (λ (g : Guarded). AreAlike g.hidden g.state guard'.state) (sym its.guard_is)
      (subst (λ (g : Guarded). AreAlike a.space.world.hidden (exported a.space) g.state)
      (sym its'.guard_is) alike)

  -- what the first offers, the second offers in its own state
  offered-second : (reports : List ℕ) (guard : Guarded) → b.space.reports ≡ a.space.reports
      → IsOffered a reports guard → IsOffered b reports (in_state guard (exported b.space))
  offered-second reports guard same its =
      let rows = its.rows in
      let fine = well Certificate input a both.first in
      let starts = starts-guarded a.space.world a.space.table rows fine.space its.closed in
      let next : map (λ (s : Server). s.next) b.space.world.forest
      ≡ map (λ (s : Server). s.next) a.space.world.forest =
      sym (nexts a.space.world.hidden b.space.world.forest)
      ∙ ap (map (λ (s : Server). s.next)) both.alike.others
      ∙ nexts a.space.world.hidden a.space.world.forest in
      record {
        rows = rows;
        rows_are = both.alike.rows ∙ its.rows_are;
        closed = ap (λ (hidden : List NodeRef). first_gap (record {
          users = b.space.world.users;
          groups = b.space.world.groups;
          hidden = hidden;
        }) b.space.world.forest b.space.table rows) both.alike.hidden
            ∙ (alike_verified a.space.world.hidden rows (exported a.space) (exported b.space)
            fine.space.forest fine.space.setting starts.hidden_given alike).0 its.closed;
        guard_is = ap (λ (g : Guarded). in_state g (exported b.space)) its.guard_is
            ∙ (λ i. record {
              state = exported b.space;
              hidden = sym both.alike.hidden i;
              start = record { rows = rows; next = sym next i };
            });
        reports_are = its.reports_are
            ∙ ap (λ reports. [] ++ reports_text reports) (sym same);
      }

pub alike-inputs-are-served-the-same : PreparedInputsAreWellFormed → AlikeInputsAreServedTheSame
alike-inputs-are-served-the-same well choose input other a b rounds w w' left left' both served
    served' chosen chosen' =
    let first = served-first well input other a b both served.reports served.guard served.serves in
    let second = served-second well input other a b both served'.reports served'.guard
    served'.serves in
    choosers-are-served-the-same {S = ClientSocket} {T = ClientSocket} choose untold untold untold
    untold served.guard served'.guard left left' rounds w.clock_before w.clock w'.clock_before w'.clock
    (alike-offered well input other a b both served.reports served'.reports served.guard
    served'.guard first second) served.served served'.served chosen chosen'

pub alike-inputs-may-be-served-the-same : PreparedInputsAreWellFormed
    → AlikeInputsMayBeServedTheSame
alike-inputs-may-be-served-the-same well input other a b rounds w left both same served =
    let first = served-first well input other a b both served.reports served.guard served.serves in
    let second = offered-second well input other a b both served.reports served.guard same first in
    let too = alike-guards-may-be-served-the-same {S = ClientSocket} untold untold served.guard left
    (exported b.space) rounds w.clock_before w.clock
    (subst (λ (g : Guarded). AreAlike g.hidden g.state (exported b.space)) (sym first.guard_is)
    (alike well input other a b both)) served.served in (
      too.0,
      record {
        guard = in_state served.guard (exported b.space);
        reports = served.reports;
        serves = subst (λ (found : Result Prepared Rejected).
            Serves (and_then found offer_in) [] served.reports
            (Some (in_state served.guard (exported b.space)))) (sym both.second)
            (offers b served.reports (in_state served.guard (exported b.space)) second);
        address = served.address;
        errors = served.errors;
        output = served.output;
        served = too.1;
      },
      too.2,
      too.3,
    )

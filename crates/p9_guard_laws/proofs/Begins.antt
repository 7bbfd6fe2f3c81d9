-- What is verified makes a guarded state, and is verified of alike worlds alike.
use Rattle.std.proofs.Common.{◌≡◌, ℕ, zero, suc, ◌<◌, ◌≤◌, true, List, [], ◌∷◌, Some, inl, inr}
use Rattle.std.proofs.Common.{refl, sym, ap, ◌∙◌, subst, arith}
use Rattle.std.specs.Prelude.{nat_le, nat_lt}
use Rattle.std.specs.List.{AllByRecursion}
use Rattle.std.proofs.lemmas.Bool.{or_left}
use Rattle.p9_base.specs.declared.node_ref.NodeRef.{NodeRef}
use Rattle.p9_tree.specs.Node.{Node, is_dir}
use Rattle.p9_tree.specs.Server.{Server}
use Rattle.p9_tree.specs.Forest.{IsForest, next_of, node_of}
use Rattle.p9_tree.specs.Inside.{is_hidden, outer}
use Rattle.p9_inside.specs.TwoForests.{IsInBoth}
use Rattle.p9_inside.proofs.Facts.{le_of, or_cases}
use Rattle.p9_inside.proofs.Looks.{Ordered, node_below, ordered_forest}
use Rattle.p9_inside.proofs.TwoForests.{next_same}
use Rattle.p9_space.specs.Given.{is_given}
use Rattle.p9_space.specs.Place.{root_place}
use Rattle.p9_space.specs.Table.{IsTable, members_of}
use Rattle.p9_table.specs.declared.row.Member.{Member}
use Rattle.p9_step.specs.State.{State}
use Rattle.p9_step.specs.Sound.{IsSetting}
use Rattle.p9_cert.specs.Rows.{is_row}
use Rattle.p9_cert.specs.Safe.{IsSafe, IsSafeMember, Set}
use Rattle.p9_cert.proofs.Gaps.{no_gap_is_closed}
use Rattle.p9_guard_laws.specs.Guarded.{AreHiddenGiven, Premises, IsCertified, premises_of}
use Rattle.p9_guard_laws.specs.Grown.{Start, grown, next_then, start_of}
use Rattle.p9_guard_laws.specs.Alike.{AreAlike, AreMembersInBoth, ArePlacesInBoth}
use Rattle.p9_guard_laws.specs.Laws.{AlikeClosed, AlikeVerified, CertifiedIsGuarded}
use Rattle.p9_guard_laws.proofs.Held.{IsKept}
use Rattle.p9_guard_laws.proofs.Guards.{AreHeld, guarded_from}
use Rattle.p9_guard_laws.proofs.Basics.{each_weaker}
use Rattle.p9_guard_laws.proofs.Stays.{IsGrown, dir_there, grown_from, grown_parts}
use Rattle.p9_guard_laws.proofs.Good.{Good}
use Rattle.p9_guard_laws.proofs.Transfer.{good_there, grown_there}

-- closed by two sets that are the same
closed_by : (premises : Premises) (f : List Server) (C D : Set)
    → ((r : NodeRef) → C r ≡ true → D r ≡ true)
    → ((r : NodeRef) → D r ≡ true → C r ≡ true) → IsCertified premises f C → IsCertified premises f D
closed_by premises f C D to back h = record {
  given = h.given;
  rows = λ r d. h.rows r (back r d);
  root = safe root_place h.root;
  children = λ r k n d e p. safe _ (h.children r k n (back r d) e p);
}
  where
    safe : (p : NodeRef) → IsSafe premises.policy f premises.table C p
        → IsSafe premises.policy f premises.table D p
    safe p all =
        each_weaker (λ m. IsSafeMember premises.policy f C m.node)
        (λ m. IsSafeMember premises.policy f D m.node)
        (λ (m : Member) s. record {
          outside = s.outside;
          shut = s.shut;
          guarded = s.guarded;
          covered = λ n e pass. to m.node (s.covered n e pass);
        }) (members_of p premises.table) all

next-then : (rows : List NodeRef) (f : List Server) (s : ℕ)
    → next_then (start_of rows f) s ≡ next_of s f
next-then rows [] s = refl
next-then rows (v ∷ vs) zero = refl
next-then rows (v ∷ vs) (suc s) = next-then rows vs s

module _ (premises : Premises) (f : List Server) (o : Ordered f) (start : Start)
    (now : (s : ℕ) → next_then start s ≡ next_of s f) where
  -- what has grown are the rows
  row_of_grown : (r : NodeRef) → grown premises.policy.hidden start f r ≡ true
      → is_row start.rows r ≡ true
  row_of_grown r t =
      elim (or_cases (is_row start.rows r) (nat_le (next_then start r.server) r.number) w.row) [
        | inl row ↦ row
        | inr late ↦
            (let a : next_then start r.server ≤ r.number =
            le_of (next_then start r.server) r.number late in
            let b : r.number < next_of r.server f = node_below f o r d.0 d.1 in
            let c = now r.server in absurd (omega arith))
      ]
    where
      w : IsGrown premises start f r
      w = grown_parts premises start f r t

      d : (x : Node) × (node_of r f ≡ Some x) × (is_dir x ≡ true)
      d = dir_there f r w.dir

  grown_of_row : IsCertified premises f (is_row start.rows) → (r : NodeRef)
      → is_row start.rows r ≡ true → grown premises.policy.hidden start f r ≡ true
  grown_of_row h r t =
      let w = h.rows r t in
      grown_from premises start f r
      (record { dir = w.dir; outside = w.outside; row = or_left (is_row start.rows r) _ t })

  pub grown_closed : IsCertified premises f (is_row start.rows)
      → IsCertified premises f (grown premises.policy.hidden start f)
  grown_closed h =
      closed_by premises f (is_row start.rows) (grown premises.policy.hidden start f)
      (grown_of_row h) row_of_grown h

  pub kept_begins : IsTable premises.table
      → ((r : NodeRef) → is_hidden r premises.policy.hidden ≡ true → is_given f r ≡ true)
      → IsCertified premises f (is_row start.rows) → IsKept premises start f
  kept_begins table hidden h = record {
    table = table;
    later = λ s. let e = now s in omega arith;
    hidden = hidden;
    closed = grown_closed h;
  }

pub certified_is_guarded : CertifiedIsGuarded
certified_is_guarded hidden rows state sound given closed none =
    let premises = premises_of hidden state.setting in
    let start = start_of rows state.forest in
    guarded_from hidden start state sound (record {
      ordered = ordered_forest state.forest sound.forest;
      kept =
          kept_begins premises state.forest (ordered_forest state.forest sound.forest) start
          (next-then rows state.forest) sound.served.fixed.table given closed;
    }) (subst (AreHeld premises start state.forest) (sym none) tt)

-- a certificate that has not grown yet, in an alike forest
closed_there : (premises : Premises) (rows : List NodeRef) (f g : List Server) → IsForest f → IsForest g
    → IsTable premises.table
    → ((r : NodeRef) → is_hidden r premises.policy.hidden ≡ true → is_given f r ≡ true)
    → outer premises.policy.hidden g ≡ outer premises.policy.hidden f → AreMembersInBoth f g premises.table
    → IsCertified premises f (is_row rows) → IsCertified premises g (is_row rows)
closed_there premises rows f g wf wg table given same members closed =
    let start = start_of rows f in
    let of = ordered_forest f wf in
    let og = ordered_forest g wg in
    let good : Good premises start f = record {
      ordered = of;
      kept = kept_begins premises f of start (next-then rows f) table given closed;
    } in
    let there = good_there premises start f g good og same members in
    closed_by premises g (grown premises.policy.hidden start g) (is_row rows)
    (row_of_grown premises g og start
    (λ s. next-then rows f s ∙ sym (next_same premises.policy.hidden f g same s)))
    (λ r t. back r t good og)
    there.kept.closed
  where
    back : (r : NodeRef) → is_row rows r ≡ true → Good premises (start_of rows f) f → Ordered g
        → grown premises.policy.hidden (start_of rows f) g r ≡ true
    back r t good og =
        grown_there premises (start_of rows f) f g good og same members r
        (grown_of_row premises f good.ordered (start_of rows f) (next-then rows f) closed r t)

-- alike is symmetric
pub alike_back : (hidden : List NodeRef) (a b : State) → IsForest a.forest → AreAlike hidden a b
    → AreAlike hidden b a
alike_back hidden a b sound alike = record {
  sound = sound;
  setting = sym alike.setting;
  sessions = sym alike.sessions;
  others = sym alike.others;
  members =
      each_weaker (λ row. AllByRecursion (λ m. IsInBoth a.forest b.forest m.node) row.1)
      (λ row. AllByRecursion (λ m. IsInBoth b.forest a.forest m.node) row.1)
      (λ row all. each_weaker (λ m. IsInBoth a.forest b.forest m.node)
      (λ m. IsInBoth b.forest a.forest m.node) (λ m both. sym both) row.1 all) b.setting.table
      (subst (λ s. AreMembersInBoth a.forest b.forest s.table) (sym alike.setting) alike.members);
  places =
      each_weaker
      (λ row. AllByRecursion (λ fid.
      AllByRecursion (IsInBoth a.forest b.forest) fid.1.trail) row.1.fids)
      (λ row. AllByRecursion (λ fid.
      AllByRecursion (IsInBoth b.forest a.forest) fid.1.trail) row.1.fids)
      (λ row all. each_weaker
      (λ fid. AllByRecursion (IsInBoth a.forest b.forest) fid.1.trail)
      (λ fid. AllByRecursion (IsInBoth b.forest a.forest) fid.1.trail)
      (λ fid trail. each_weaker (IsInBoth a.forest b.forest) (IsInBoth b.forest a.forest)
      (λ r both. sym both) fid.1.trail trail) row.1.fids all) b.sessions
      (subst (ArePlacesInBoth a.forest b.forest) (sym alike.sessions) alike.places);
}

closed_one_way : (hidden rows : List NodeRef) (a b : State) → IsForest a.forest
    → IsSetting a.setting → AreHiddenGiven hidden a.forest → AreAlike hidden a b
    → IsCertified (premises_of hidden a.setting) a.forest (is_row rows)
    → IsCertified (premises_of hidden b.setting) b.forest (is_row rows)
closed_one_way hidden rows a b sound its given alike closed =
    subst (λ s. IsCertified (premises_of hidden s) b.forest (is_row rows)) (sym alike.setting)
    (closed_there (premises_of hidden a.setting) rows a.forest b.forest sound alike.sound its.table
    given alike.others alike.members closed)

pub alike_closed : AlikeClosed
alike_closed hidden rows a b sound its given alike = (
  λ closed. closed_one_way hidden rows a b sound its given alike closed,
  λ closed. closed_one_way hidden rows b a alike.sound
      (subst IsSetting (sym alike.setting) its)
      (λ r t. ap (nat_lt r.number) (next_same hidden a.forest b.forest alike.others r.server)
      ∙ given r t)
      (alike_back hidden a b sound alike) closed,
)

pub alike_verified : AlikeVerified
alike_verified hidden rows a b sound its given alike =
    let of_a = no_gap_is_closed (premises_of hidden a.setting).policy a.forest a.setting.table rows
    sound in
    let of_b = no_gap_is_closed (premises_of hidden b.setting).policy b.forest b.setting.table rows
    alike.sound in
    let both = alike_closed hidden rows a b sound its given alike in
    (λ none. of_b.1 (both.0 (of_a.0 none)), λ none. of_a.1 (both.1 (of_b.0 none)))

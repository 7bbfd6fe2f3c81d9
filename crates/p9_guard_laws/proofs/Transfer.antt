-- What holds of a forest holds of one that differs from it only inside hidden directories.
use Rattle.std.proofs.Common.{◌≡◌, ℕ, Bool, true, false, List, [], ◌∷◌, Option, Some, None, refl}
use Rattle.std.proofs.Common.{sym, ap, ◌∙◌, subst}
use Rattle.std.specs.Prelude.{if◌then◌else◌, nat_lt, unwrap_or}
use Rattle.std.specs.List.{AllByRecursion, list_all}
use Rattle.p9_base.specs.declared.node_ref.NodeRef.{NodeRef}
use Rattle.p9_base.specs.NodeRef.{beside, same_node}
use Rattle.p9_tree.specs.Node.{Node}
use Rattle.p9_tree.specs.Server.{Server}
use Rattle.p9_tree.specs.Forest.{node_of}
use Rattle.p9_tree.specs.Inside.{is_barred, is_inside, outer}
use Rattle.p9_inside.specs.TwoForests.{IsInBoth}
use Rattle.p9_inside.proofs.TwoForests.{in_both, inside_alike, next_same, node_same, seen}
use Rattle.p9_inside.proofs.Facts.{not_some, some_same}
use Rattle.p9_inside.proofs.Looks.{Ordered, inside_at, not_barred, not_inside, parent_not_barred}
use Rattle.p9_inside.proofs.Looks.{root_outside}
use Rattle.p9_table.specs.declared.row.Member.{Member}
use Rattle.p9_space.specs.Given.{is_given, is_table_given}
use Rattle.p9_space.specs.Place.{root_place}
use Rattle.p9_space.specs.Row.{member}
use Rattle.p9_space.specs.Table.{MountRow, row_of}
use Rattle.p9_fids.specs.Fid.{Fid, FidRow}
use Rattle.p9_cert.specs.Safe.{IsSafe, IsSafeMember, Set}
use Rattle.p9_guard_laws.specs.Guarded.{Premises}
use Rattle.p9_guard_laws.specs.Grown.{Start, grown}
use Rattle.p9_guard_laws.specs.Alike.{AreMembersInBoth}
use Rattle.p9_guard_laws.proofs.Held.{HeldFid, HeldFids, HeldPlace}
use Rattle.p9_guard_laws.proofs.Basics.{each_two}
use Rattle.p9_guard_laws.proofs.Stays.{dir_there, grown_from, grown_parts, is_dir_there}
use Rattle.p9_guard_laws.proofs.Good.{Good}

module _ (premises : Premises) (start : Start) (f g : List Server) (good : Good premises start f)
    (og : Ordered g) (same : outer premises.policy.hidden g ≡ outer premises.policy.hidden f)
    (tables : AreMembersInBoth f g premises.table) where
  abbrev before : Set
  before = grown premises.policy.hidden start f

  abbrev after : Set
  after = grown premises.policy.hidden start g

  given_same : (r : NodeRef) → is_given g r ≡ is_given f r
  given_same r = ap (nat_lt r.number) (next_same premises.policy.hidden f g same r.server)

  pub grown_there : (r : NodeRef) → before r ≡ true → after r ≡ true
  grown_there r t =
      let w = grown_parts premises start f r t in
      let d = dir_there f r w.dir in
      let s = seen premises.policy.hidden f g og same r d.0 d.1 w.outside in
      grown_from premises start g r
      (record { dir = is_dir_there g r d.0 s.0 d.2; outside = s.1; row = w.row })

  grown_back : (r : NodeRef) → after r ≡ true → before r ≡ true
  grown_back r t =
      let w = grown_parts premises start g r t in
      let d = dir_there g r w.dir in
      let s = seen premises.policy.hidden g f good.ordered (sym same) r d.0 d.1 w.outside in
      grown_from premises start f r
      (record { dir = is_dir_there f r d.0 s.0 d.2; outside = s.1; row = w.row })

  member_there : (r : NodeRef)
      → is_inside r premises.policy.hidden g ≡ is_inside r premises.policy.hidden f
      → IsSafeMember premises.policy f before r → IsSafeMember premises.policy g after r
  member_there r i h = record {
    outside = out;
    shut = λ hid x e. h.shut hid x (sym one ∙ e);
    guarded =
        λ hid x e p d q w.
        let po =
        not_inside premises.policy.hidden g og (beside r p)
        (parent_not_barred premises.policy.hidden g r x p e q out) in
        h.guarded hid x (sym one ∙ e) p d q
        (seen premises.policy.hidden g f good.ordered (sym same) (beside r p) d w po).0;
    covered = λ x e pass. grown_there r (h.covered x (sym one ∙ e) pass);
  }
    where
      out : is_inside r premises.policy.hidden g ≡ false
      out = i ∙ h.outside

      one : node_of r g ≡ node_of r f
      one = node_same premises.policy.hidden f g good.ordered og same r out h.outside

  row_alike : (rows : List MountRow) → AreMembersInBoth f g rows → (p : NodeRef) (ms : List Member)
      → row_of p rows ≡ Some ms → AllByRecursion (λ m. IsInBoth f g m.node) ms
  row_alike [] all p ms e = not_some ms e
  row_alike (row ∷ rows) all p ms e = go (same_node p row.0) e (row_alike rows all.1 p ms)
    where
      go : (b : Bool) → (if b then Some row.1 else row_of p rows) ≡ Some ms
          → (row_of p rows ≡ Some ms → AllByRecursion (λ m. IsInBoth f g m.node) ms)
          → AllByRecursion (λ m. IsInBoth f g m.node) ms
      go true t later =
          let is : row.1 ≡ ms = some_same row.1 ms t in
          subst (λ zs. AllByRecursion (λ (m : Member). IsInBoth f g m.node) zs) is all.0
      go false t later = later t

  place_there : (p : NodeRef) → IsInBoth f g p → IsSafe premises.policy f premises.table before p
      → IsSafe premises.policy g premises.table after p
  place_there p both h = go (row_of p premises.table) refl h
    where
      each : (ms : List Member) → AllByRecursion (λ m. IsInBoth f g m.node) ms
          → AllByRecursion (λ m. IsSafeMember premises.policy f before m.node) ms
          → AllByRecursion (λ m. IsSafeMember premises.policy g after m.node) ms
      each [] a b = tt
      each (m ∷ ms) a b = (
        member_there m.node (inside_alike premises.policy.hidden f g good.ordered og same m.node a.0)
            b.0,
        each ms a.1 b.1,
      )

      go : (o : Option (List Member)) → row_of p premises.table ≡ o
          → AllByRecursion (λ m. IsSafeMember premises.policy f before m.node)
          (unwrap_or o (member true p ∷ []))
          → AllByRecursion (λ m. IsSafeMember premises.policy g after m.node)
          (unwrap_or o (member true p ∷ []))
      go None e all = each (member true p ∷ []) (both, tt) all
      go (Some ms) e all = each ms (row_alike premises.table tables p ms e) all

  -- a place that is outside in both
  outside_both : (p : NodeRef) → is_inside p premises.policy.hidden g ≡ false
      → is_inside p premises.policy.hidden f ≡ false → IsInBoth f g p
  outside_both p a b = in_both premises.policy.hidden f g good.ordered og same p (a ∙ sym b)

  child_there : (r : NodeRef) (k : ℕ) (x : Node) → after r ≡ true → node_of (beside r k) g ≡ Some x
      → x.parent ≡ Some r.number → IsSafe premises.policy g premises.table after (beside r k)
  child_there r k x t e q =
      let w = good.kept.closed.rows r (grown_back r t) in
      let wg = grown_parts premises start g r t in
      let nb : is_barred r premises.policy.hidden g ≡ false =
      not_barred premises.policy.hidden g og r w.not_hidden wg.outside in
      let out : is_inside (beside r k) premises.policy.hidden g ≡ false =
      inside_at premises.policy.hidden g (beside r k) x r.number e q ∙ nb in
      let s = seen premises.policy.hidden g f good.ordered (sym same) (beside r k) x e out in
      place_there (beside r k) (outside_both (beside r k) out s.1)
      (good.kept.closed.children r k x (grown_back r t) s.0 q)

  members_given : (ms : List Member)
      → list_all (λ m. is_given g m.node) ms ≡ list_all (λ m. is_given f m.node) ms
  members_given [] = refl
  members_given (m ∷ ms) = rw (given_same m.node, members_given ms) refl

  table_given : (rows : List MountRow) → is_table_given g rows ≡ is_table_given f rows
  table_given [] = refl
  table_given (row ∷ rows) = rw (given_same row.0, members_given row.1, table_given rows) refl

  pub good_there : Good premises start g
  good_there = record {
    ordered = og;
    kept = record {
      table = good.kept.table;
      later = λ s. rw (next_same premises.policy.hidden f g same s) (good.kept.later s);
      hidden = λ r t. given_same r ∙ good.kept.hidden r t;
      closed = record {
        given = table_given premises.table ∙ good.kept.closed.given;
        rows =
            λ r t. let w = grown_parts premises start g r t in record {
              dir = w.dir;
              not_hidden = (good.kept.closed.rows r (grown_back r t)).not_hidden;
              outside = w.outside;
            };
        root =
            place_there root_place
            (outside_both root_place (root_outside premises.policy.hidden g og)
            (root_outside premises.policy.hidden f good.ordered))
            good.kept.closed.root;
        children = child_there;
      };
    };
  }

  pub fid_there : (v : Fid) → AllByRecursion (IsInBoth f g) v.trail → HeldFid premises start f v
      → HeldFid premises start g v
  fid_there v both h = record {
    listed = h.listed;
    places =
        each_two (IsInBoth f g) (HeldPlace premises start f) (HeldPlace premises start g)
        (λ p b s. record {
          given = given_same p ∙ s.given;
          outside = inside_alike premises.policy.hidden f g good.ordered og same p b ∙ s.outside;
          safe = place_there p b s.safe;
        }) v.trail both h.places;
    shown = h.shown;
  }

  pub fids_there : (fids : List FidRow)
      → AllByRecursion (λ fid. AllByRecursion (IsInBoth f g) fid.1.trail) fids
      → HeldFids premises start f fids → HeldFids premises start g fids
  fids_there fids both h =
      each_two (λ fid. AllByRecursion (IsInBoth f g) fid.1.trail)
      (λ fid. HeldFid premises start f fid.1)
      (λ fid. HeldFid premises start g fid.1) (λ fid b s. fid_there fid.1 b s) fids both h

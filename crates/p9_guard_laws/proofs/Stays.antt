-- What is safe stays safe, where the forest goes on by lawful changes.
use Rattle.std.proofs.Common.{◌≡◌, ℕ, ◌<◌, ◌≤◌, Bool, true, false, not, ◌||◌, List, [], ◌∷◌, ◌⊎◌}
use Rattle.std.proofs.Common.{inl, inr, Option, Some, None, refl, sym, ap, ◌∙◌, subst, arith}
use Rattle.std.specs.Prelude.{nat_le, unwrap_or}
use Rattle.std.specs.List.{AllByRecursion, list_all}
use Rattle.std.specs.Option.{option_map_or}
use Rattle.std.proofs.lemmas.Bool.{and_from, and_parts, or_right}
use Rattle.p9_base.specs.declared.node_ref.NodeRef.{NodeRef}
use Rattle.p9_base.specs.NodeRef.{beside, same_node}
use Rattle.p9_tree.specs.Node.{Node, is_dir}
use Rattle.p9_tree.specs.Server.{Server}
use Rattle.p9_tree.specs.Forest.{is_dir_of, next_of, node_of}
use Rattle.p9_tree.specs.Inside.{is_hidden, is_inside}
use Rattle.p9_inside.proofs.Facts.{clash, le_test, lt_of, lt_test, not_is, not_true, some_same}
use Rattle.p9_inside.proofs.Looks.{Ordered, inside_at, inside_none, inside_root, node_below}
use Rattle.p9_inside.proofs.Looks.{parent_below}
use Rattle.p9_table.specs.declared.row.Member.{Member}
use Rattle.p9_space.specs.Given.{is_given, is_row_given, is_table_given}
use Rattle.p9_space.specs.Place.{root_place}
use Rattle.p9_space.specs.Row.{member}
use Rattle.p9_space.specs.Table.{MountRow, members_of, row_of}
use Rattle.p9_table.proofs.GivenLists.{all-lookup}
use Rattle.p9_fids.specs.Fid.{Fid, FidRow}
use Rattle.p9_step.proofs.NodeRefs.{same-is}
use Rattle.p9_cert.specs.Rows.{is_row}
use Rattle.p9_cert.specs.Safe.{IsSafe, IsSafeMember, Set}
use Rattle.p9_cert.specs.Closed.{IsShown}
use Rattle.p9_guard_laws.specs.Guarded.{Premises}
use Rattle.p9_guard_laws.specs.Grown.{Start, grown, next_then}
use Rattle.p9_guard_laws.proofs.Held.{HeldFid, HeldFids, HeldPlace, IsKept}
use Rattle.p9_guard_laws.proofs.Basics.{each_passes, each_weaker}
use Rattle.p9_guard_laws.proofs.Moves.{Evolves, Newcomer, SameStanding, loose_stays, passable_dir}
use Rattle.p9_guard_laws.proofs.Moves.{passable_was, shut_stays}

-- the members of a row were given
row_given : (f : List Server) (table : List MountRow) → is_table_given f table ≡ true
    → (q : NodeRef) (ms : List Member) → row_of q table ≡ Some ms
    → AllByRecursion (λ m. is_given f m.node ≡ true) ms
row_given f table given q ms e =
    let found = all-lookup (is_row_given f) (same_node q) table ms given e in
    each_passes (λ m. is_given f m.node) ms
    (and_parts (is_given f found.0) (list_all (λ m. is_given f m.node) ms) found.1).1

-- what was not given is no key
pub no_row : (f : List Server) (table : List MountRow) → is_table_given f table ≡ true
    → (q : NodeRef) → is_given f q ≡ false → row_of q table ≡ None
no_row f [] given q new = refl
no_row f (row ∷ rows) given q new =
    let parts = and_parts (is_row_given f row) (is_table_given f rows) given in
    let here = and_parts (is_given f row.0) (list_all (λ m. is_given f m.node) row.1) parts.0 in
    go (same_node q row.0) refl here.0 (no_row f rows parts.1 q new)
  where
    go : (b : Bool) → same_node q row.0 ≡ b → is_given f row.0 ≡ true → row_of q rows ≡ None
        → row_of q (row ∷ rows) ≡ None
    go true e given later =
        clash (is_given f q)
        (subst (λ r. is_given f r ≡ true) (sym (same-is q row.0 e)) given) new
    go false e given later = rw e later

-- the number was given, or is a root's
abbrev pub Settled : List Server → NodeRef → Type 0
Settled f q = (is_given f q ≡ true) ⊎ (q.number ≡ 0)

module _ (premises : Premises) (f : List Server) (given : is_table_given f premises.table ≡ true) where
  -- what stands for a settled place is settled
  pub members_settled : (q : NodeRef) → Settled f q
      → AllByRecursion (λ m. Settled f m.node) (members_of q premises.table)
  members_settled q s = go (row_of q premises.table) refl
    where
      go : (o : Option (List Member)) → row_of q premises.table ≡ o
          → AllByRecursion (λ m. Settled f m.node) (unwrap_or o (member true q ∷ []))
      go None e = (s, tt)
      go (Some ms) e =
          each_weaker (λ m. is_given f m.node ≡ true) (λ m. Settled f m.node) (λ m g. inl g) ms
          (row_given f premises.table given q ms e)

  -- a place that was not given stands for itself alone
  pub members_new : (q : NodeRef) → is_given f q ≡ false
      → members_of q premises.table ≡ member true q ∷ []
  members_new q new =
      ap (λ o. unwrap_or o (member true q ∷ [])) (no_row f premises.table given q new)

module _ (premises : Premises) (f g : List Server) (o : Ordered f) (ev : Evolves premises f g) where
  -- a node that is settled and there was there
  pub was : (q : NodeRef) (y : Node) → Settled f q → node_of q g ≡ Some y
      → (x : Node) × (node_of q f ≡ Some x) × SameStanding premises x y
  was q y s e = elim (ev.node q y e) [
    | inl old ↦ old
    | inr new ↦ elim s [
      | inl low ↦
          (let l : q.number < next_of q.server f = lt_of q.number (next_of q.server f) low in
          let h : next_of q.server f ≤ q.number = new.at_next in absurd (omega arith))
      | inr zero ↦ (let h : 0 < q.number = new.no_root in absurd (omega arith))
    ]
  ]

  pub outside_stays : (q : NodeRef) → Settled f q → is_inside q premises.policy.hidden f ≡ false
      → is_inside q premises.policy.hidden g ≡ false
  outside_stays q s out = go (node_of q g) refl
    where
      up : (x y : Node) → node_of q f ≡ Some x → node_of q g ≡ Some y → y.parent ≡ x.parent
          → (p : Option ℕ) → x.parent ≡ p → is_inside q premises.policy.hidden g ≡ false
      up x y a b same None e = inside_root premises.policy.hidden g q y b (same ∙ e)
      up x y a b same (Some p) e =
          inside_at premises.policy.hidden g q y p b (same ∙ e) ∙ ev.barred (beside q p)
          ∙ sym (inside_at premises.policy.hidden f q x p a e) ∙ out

      go : (n : Option Node) → node_of q g ≡ n → is_inside q premises.policy.hidden g ≡ false
      go None e = inside_none premises.policy.hidden g q e
      go (Some y) e = let w = was q y s e in up w.0 y w.1 e w.2.parent w.0.parent refl

  given_stays : (q : NodeRef) → is_given f q ≡ true → is_given g q ≡ true
  given_stays q e =
      let l : q.number < next_of q.server f = lt_of q.number (next_of q.server f) e in
      let m : next_of q.server f ≤ next_of q.server g = ev.next q.server in
      lt_test q.number (next_of q.server g) (omega arith)

  settled_parent : (q : NodeRef) (p : ℕ) → p < q.number → Settled f q → Settled f (beside q p)
  settled_parent q p low (inl given) =
      let l : q.number < next_of q.server f = lt_of q.number (next_of q.server f) given in
      inl (lt_test p (next_of q.server f) (omega arith))
  settled_parent q p low (inr zero) = absurd (omega arith)

  module _ (C D : Set)
      (stays : (q : NodeRef) (y : Node) → C q ≡ true → node_of q g ≡ Some y → D q ≡ true) where
    pub member_stays : (q : NodeRef) → Settled f q → IsSafeMember premises.policy f C q
        → IsSafeMember premises.policy g D q
    member_stays q s h = record {
      outside = outside_stays q s h.outside;
      shut =
          λ hid y e. let w = was q y s e in
          shut_stays premises w.0 y w.2 (h.shut hid w.0 w.1);
      guarded =
          λ hid y e p d in_p there.
          let w = was q y s e in
          let old : w.0.parent ≡ Some p = sym w.2.parent ∙ in_p in
          let low : p < q.number = parent_below f o q w.0 p w.1 old in
          let v = was (beside q p) d (settled_parent q p low s) there in
          loose_stays premises v.0 d v.2 (h.guarded hid w.0 w.1 p v.0 old v.1);
      covered =
          λ y e pass. let w = was q y s e in
          stays q y (h.covered w.0 w.1 (passable_was premises w.0 y w.2 pass)) e;
    }

    pub safe_stays : is_table_given f premises.table ≡ true → (q : NodeRef) → Settled f q
        → IsSafe premises.policy f premises.table C q → IsSafe premises.policy g premises.table D q
    safe_stays given q s h = go (members_of q premises.table) (members_settled premises f given q s) h
      where
        go : (ms : List Member) → AllByRecursion (λ m. Settled f m.node) ms
            → AllByRecursion (λ m. IsSafeMember premises.policy f C m.node) ms
            → AllByRecursion (λ m. IsSafeMember premises.policy g D m.node) ms
        go [] a b = tt
        go (m ∷ ms) a b = (member_stays m.node a.0 b.0, go ms a.1 b.1)

-- What grows.

-- the test of a certificate that has grown
pub record IsGrown (premises : Premises) (start : Start) (f : List Server) (q : NodeRef) : Type 0 where
  pub dir : is_dir_of q f ≡ true
  pub outside : is_inside q premises.policy.hidden f ≡ false
  pub row : (is_row start.rows q || nat_le (next_then start q.server) q.number) ≡ true

pub grown_parts : (premises : Premises) (start : Start) (f : List Server) (q : NodeRef)
    → grown premises.policy.hidden start f q ≡ true → IsGrown premises start f q
unfolding grown
grown_parts premises start f q t =
    let a = and_parts (is_dir_of q f) _ t in
    let b = and_parts (not (is_inside q premises.policy.hidden f)) _ a.1 in
    record { dir = a.0; outside = not_is _ b.0; row = b.1 }

pub grown_from : (premises : Premises) (start : Start) (f : List Server) (q : NodeRef)
    → IsGrown premises start f q → grown premises.policy.hidden start f q ≡ true
unfolding grown
grown_from premises start f q w =
    and_from (is_dir_of q f) _ w.dir
    (and_from (not (is_inside q premises.policy.hidden f)) _ (ap not w.outside) w.row)

-- a directory that exists
pub dir_there : (f : List Server) (q : NodeRef) → is_dir_of q f ≡ true
    → (x : Node) × (node_of q f ≡ Some x) × (is_dir x ≡ true)
dir_there f q t = go (node_of q f) refl t
  where
    go : (n : Option Node) → node_of q f ≡ n → option_map_or is_dir n false ≡ true
        → (x : Node) × (node_of q f ≡ Some x) × (is_dir x ≡ true)
    go None e d = let b : false ≡ true = d in cc
    go (Some x) e d = (x, e, d)

pub is_dir_there : (f : List Server) (q : NodeRef) (x : Node) → node_of q f ≡ Some x
    → is_dir x ≡ true → is_dir_of q f ≡ true
is_dir_there f q x e d = ap (λ n. option_map_or is_dir n false) e ∙ d

module _ (premises : Premises) (start : Start) (f g : List Server) (o : Ordered f)
    (kept : IsKept premises start f) (ev : Evolves premises f g) where
  abbrev before : Set
  before = grown premises.policy.hidden start f

  abbrev after : Set
  after = grown premises.policy.hidden start g

  stays : (q : NodeRef) (y : Node) → before q ≡ true → node_of q g ≡ Some y → after q ≡ true
  stays q y t e =
      let w = grown_parts premises start f q t in
      let d = dir_there f q w.dir in
      let s : Settled f q =
      inl (lt_test q.number (next_of q.server f) (node_below f o q d.0 d.1)) in
      let v = was premises f g o ev q y s e in
      let same : d.0 ≡ v.0 = some_same d.0 v.0 (sym d.1 ∙ v.1) in
      grown_from premises start g q (record {
        dir = is_dir_there g q y e (v.2.kind ∙ ap is_dir (sym same) ∙ d.2);
        outside = outside_stays premises f g o ev q s w.outside;
        row = w.row;
      })

  comes : (q : NodeRef) (y : Node) → node_of q g ≡ Some y → next_of q.server f ≤ q.number
      → is_dir y ≡ true → is_inside q premises.policy.hidden g ≡ false → after q ≡ true
  comes q y e new d out =
      let a : next_then start q.server ≤ next_of q.server f = kept.later q.server in
      grown_from premises start g q (record {
        dir = is_dir_there g q y e d;
        outside = out;
        row = or_right (is_row start.rows q) _ (le_test _ _ (omega arith));
      })

  from : (q : NodeRef) → after q ≡ true
      → (before q ≡ true) ⊎ ((y : Node) × (node_of q g ≡ Some y) × Newcomer premises f q y)
  from q t = go (ev.node q d.0 d.1)
    where
      w : IsGrown premises start g q
      w = grown_parts premises start g q t

      d : (x : Node) × (node_of q g ≡ Some x) × (is_dir x ≡ true)
      d = dir_there g q w.dir

      was_out : (x : Node) → node_of q f ≡ Some x → d.0.parent ≡ x.parent → (p : Option ℕ)
          → x.parent ≡ p → is_inside q premises.policy.hidden f ≡ false
      was_out x a same None e = inside_root premises.policy.hidden f q x a e
      was_out x a same (Some p) e =
          inside_at premises.policy.hidden f q x p a e ∙ sym (ev.barred (beside q p))
          ∙ sym (inside_at premises.policy.hidden g q d.0 p d.1 (same ∙ e)) ∙ w.outside

      go : ((x : Node) × (node_of q f ≡ Some x) × SameStanding premises x d.0)
          ⊎ Newcomer premises f q d.0
          → (before q ≡ true) ⊎ ((y : Node) × (node_of q g ≡ Some y) × Newcomer premises f q y)
      go (inl old) = inl (grown_from premises start f q (record {
        dir = is_dir_there f q old.0 old.1 (sym old.2.kind ∙ d.2);
        outside = was_out old.0 old.1 old.2.parent old.0.parent refl;
        row = w.row;
      }))
      go (inr new) = inr (d.0, d.1, new)

  -- a newcomer is not inside, not hidden, and safe
  pub new_outside : (q : NodeRef) (y : Node) → node_of q g ≡ Some y → Newcomer premises f q y
      → is_inside q premises.policy.hidden g ≡ false
  new_outside q y e n =
      inside_at premises.policy.hidden g q y n.under e n.parent ∙ ev.barred (beside q n.under)
      ∙ n.open_parent

  new_shown : (q : NodeRef) (y : Node) → Newcomer premises f q y
      → is_hidden q premises.policy.hidden ≡ false
  new_shown q y n =
      not_true (is_hidden q premises.policy.hidden)
      (λ t. let l : q.number < next_of q.server f =
      lt_of q.number (next_of q.server f) (kept.hidden q t) in
      let h : next_of q.server f ≤ q.number = n.at_next in omega arith)

  new_member : (q : NodeRef) (y : Node) → node_of q g ≡ Some y → Newcomer premises f q y
      → IsSafeMember premises.policy g after q
  new_member q y e n = record {
    outside = new_outside q y e n;
    shut = λ hid z there. clash (is_hidden q premises.policy.hidden) hid (new_shown q y n);
    guarded = λ hid z there. clash (is_hidden q premises.policy.hidden) hid (new_shown q y n);
    covered =
        λ z there pass. comes q z there n.at_next (passable_dir premises z pass)
        (new_outside q y e n);
  }

  pub new_safe : (q : NodeRef) (y : Node) → node_of q g ≡ Some y → Newcomer premises f q y
      → IsSafe premises.policy g premises.table after q
  new_safe q y e n =
      let new : is_given f q ≡ false =
      not_true (is_given f q)
      (λ t. let l : q.number < next_of q.server f = lt_of q.number (next_of q.server f) t in
      let h : next_of q.server f ≤ q.number = n.at_next in omega arith) in
      rw (members_new premises f kept.closed.given q new) (new_member q y e n, tt)

  pub place_safe : (q : NodeRef) → Settled f q → IsSafe premises.policy f premises.table before q
      → IsSafe premises.policy g premises.table after q
  place_safe q s h = safe_stays premises f g o ev before after stays kept.closed.given q s h

  pub place_stays : (q : NodeRef) → HeldPlace premises start f q → HeldPlace premises start g q
  place_stays q h = record {
    given = given_stays premises f g o ev q h.given;
    outside = outside_stays premises f g o ev q (inl h.given) h.outside;
    safe = place_safe q (inl h.given) h.safe;
  }

  pub fid_stays : (v : Fid) → HeldFid premises start f v → HeldFid premises start g v
  fid_stays v h = record {
    listed = h.listed;
    places =
        each_weaker (HeldPlace premises start f) (HeldPlace premises start g) place_stays v.trail
        h.places;
    shown = h.shown;
  }

  pub fids_stay : (fids : List FidRow) → HeldFids premises start f fids → HeldFids premises start g fids
  fids_stay fids h =
      each_weaker (λ row. HeldFid premises start f row.1) (λ row. HeldFid premises start g row.1)
      (λ row s. fid_stays row.1 s) fids h

  -- the table
  members_given : (ms : List Member) → list_all (λ m. is_given f m.node) ms ≡ true
      → list_all (λ m. is_given g m.node) ms ≡ true
  members_given [] all = refl
  members_given (m ∷ ms) all =
      let parts = and_parts (is_given f m.node) (list_all (λ m. is_given f m.node) ms) all in
      and_from (is_given g m.node) _ (given_stays premises f g o ev m.node parts.0)
      (members_given ms parts.1)

  table_given : (rows : List MountRow) → is_table_given f rows ≡ true → is_table_given g rows ≡ true
  table_given [] all = refl
  table_given (row ∷ rows) all =
      let parts = and_parts (is_row_given f row) (is_table_given f rows) all in
      let here = and_parts (is_given f row.0) (list_all (λ m. is_given f m.node) row.1) parts.0 in
      and_from (is_row_given g row) _
      (and_from (is_given g row.0) _ (given_stays premises f g o ev row.0 here.0)
      (members_given row.1 here.1))
      (table_given rows parts.1)

  row_stays : Ordered g → (q : NodeRef) → after q ≡ true → IsShown premises.policy g q
  row_stays og q t = record {
    dir = w.dir;
    not_hidden = go (from q t);
    outside = w.outside;
  }
    where
      w : IsGrown premises start g q
      w = grown_parts premises start g q t

      go : (before q ≡ true) ⊎ ((y : Node) × (node_of q g ≡ Some y) × Newcomer premises f q y)
          → is_hidden q premises.policy.hidden ≡ false
      go (inl old) = (kept.closed.rows q old).not_hidden
      go (inr new) = new_shown q new.0 new.2

  child_stays : (r : NodeRef) (k : ℕ) (y : Node) → after r ≡ true
      → node_of (beside r k) g ≡ Some y → y.parent ≡ Some r.number
      → IsSafe premises.policy g premises.table after (beside r k)
  child_stays r k y t e in_r = go (ev.node (beside r k) y e) (from r t)
    where
      go : ((x : Node) × (node_of (beside r k) f ≡ Some x) × SameStanding premises x y)
          ⊎ Newcomer premises f (beside r k) y
          → (before r ≡ true) ⊎ ((z : Node) × (node_of r g ≡ Some z) × Newcomer premises f r z)
          → IsSafe premises.policy g premises.table after (beside r k)
      go (inr new) c = new_safe (beside r k) y e new
      go (inl old) (inl c) =
          place_safe (beside r k)
          (inl (lt_test k (next_of r.server f) (node_below f o (beside r k) old.0 old.1)))
          (kept.closed.children r k old.0 c old.1 (sym old.2.parent ∙ in_r))
      go (inl old) (inr new) =
          let a : k < next_of r.server f = node_below f o (beside r k) old.0 old.1 in
          let b : r.number < k =
          parent_below f o (beside r k) old.0 r.number old.1 (sym old.2.parent ∙ in_r) in
          let c : next_of r.server f ≤ r.number = new.2.at_next in
          absurd (omega arith)

  -- what a guard keeps of its forest stays
  pub kept_stays : Ordered g → IsKept premises start g
  kept_stays og = record {
    table = kept.table;
    later =
        λ s. let a : next_then start s ≤ next_of s f = kept.later s in
        let b : next_of s f ≤ next_of s g = ev.next s in omega arith;
    hidden = λ q t. given_stays premises f g o ev q (kept.hidden q t);
    closed = record {
      given = table_given premises.table kept.closed.given;
      rows = row_stays og;
      root = place_safe root_place (inr refl) kept.closed.root;
      children = child_stays;
    };
  }

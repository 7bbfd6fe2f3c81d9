-- There is no gap exactly where the rows are closed.
use Rattle.std.proofs.Common.{◌≡◌, ℕ, Bool, true, false, not, ◌&&◌, ◌||◌, List, [], ◌∷◌}
use Rattle.std.proofs.Common.{Option}
use Rattle.std.proofs.Common.{Some, None, Result, Ok, Err, refl, sym, ap, ◌∙◌, subst, arith}
use Rattle.std.proofs.Common.{option_and_then}
use Rattle.std.specs.Prelude.{find, filter, if◌then◌else◌, ◌==◌, ◌↔◌, IsOk}
use Rattle.std.specs.List.{AllByRecursion, list_all}
use Rattle.std.specs.Option.{option_map, option_map_or}
use Rattle.std.specs.Result.{result_err}
use Rattle.std.proofs.lemmas.Bool.{and_from, and_parts, or_left, or_right}
use Rattle.std.proofs.lemmas.Bool.Decides.{nat_tests}
use Rattle.std.proofs.lemmas.List.Elements.{recursion_from_All}
use Rattle.p9_base.specs.declared.node_ref.NodeRef.{NodeRef}
use Rattle.p9_base.specs.NodeRef.{beside, same_node}
use Rattle.p9_tree.specs.Node.{Node, has_number, is_in}
use Rattle.p9_tree.specs.Server.{Server, node_at}
use Rattle.p9_tree.specs.Forest.{IsForest, children_of, node_of, server_at}
use Rattle.p9_tree.specs.Inside.{is_hidden, is_inside}
use Rattle.p9_tree.proofs.Lookups.{each_found, number-node_at}
use Rattle.p9_inside.proofs.Forests.{server_ordered}
use Rattle.p9_table.specs.declared.row.Member.{Member}
use Rattle.p9_space.specs.Given.{is_given, is_row_given, is_table_given}
use Rattle.p9_space.specs.Place.{root_place}
use Rattle.p9_space.specs.Table.{MountRow, members_of}
use Rattle.p9_policy.specs.Listed.{is_alterable, is_open, is_owned, is_passable}
use Rattle.p9_policy.specs.Policy.{Policy}
use Rattle.p9_policy.specs.Rows.{is_row}
use Rattle.p9_policy.proofs.Basics.{clash, each_weaker, eq_of, not_some, same_ref, same_self}
use Rattle.p9_policy.proofs.Basics.{some_same}
use Rattle.p9_cert.specs.declared.gap.Gap.{Gap}
use Rattle.p9_cert.specs.declared.gap.Gap.TheVariants.{Table, Row, Root, Child}
use Rattle.p9_cert.specs.declared.gap.MemberFault.TheVariants.{Inside, Open, Owned, Removable}
use Rattle.p9_cert.specs.declared.gap.MemberFault.TheVariants.{Missing}
use Rattle.p9_cert.specs.Closed.{IsClosed, IsShown}
use Rattle.p9_cert.specs.Gap.{child_gap, children_gap, faulty, first_counted, first_gap}
use Rattle.p9_cert.specs.Gap.{hidden_fault, is_removable, member_fault, members_gap, mount_gap}
use Rattle.p9_cert.specs.Gap.{node_fault, node_gap, place_fault, root_gap, row_fault, row_gap}
use Rattle.p9_cert.specs.Gap.{table_gap, where_true}
use Rattle.p9_cert.specs.Laws.{NoGapIsClosed}
use Rattle.p9_cert.specs.Safe.{IsGuarded, IsSafe, IsSafeMember}
use Rattle.p9_cert.proofs.Firsts.{counted-none, first_none, no_map, no_or, no_where, none-counted}
use Rattle.p9_cert.proofs.Firsts.{none_first, or_none}
use Rattle.p9_cert.proofs.Faults.{row_fault-none}

-- Members.

-- three tests that all fail
pub hidden-none : {X : Type 0} (w x y : X) (a b c : Bool)
    → (if a then Some w else if b then Some x else where_true c y) ≡ None
    → (a ≡ false) × (b ≡ false) × (c ≡ false)
hidden-none w x y true b c e = let no : Some w ≡ None = e in absurd (cc)
hidden-none w x y false true c e = let no : Some x ≡ None = e in absurd (cc)
hidden-none w x y false false true e = let no : Some y ≡ None = e in absurd (cc)
hidden-none w x y false false false e = (refl, refl, refl)

-- one test under another
under : {X : Type 0} (b : Bool) (o : Option X) → (if b then o else None) ≡ None → b ≡ true
    → o ≡ None
under true o e t = e
under false o e t = clash false t refl

lift : {X : Type 0} (b : Bool) (o : Option X) → (b ≡ true → o ≡ None)
    → (if b then o else None) ≡ None
lift true o h = h refl
lift false o h = refl

not_missing : (a b : Bool) → (a && not b) ≡ false → a ≡ true → b ≡ true
not_missing a true e t = refl
not_missing true false e t = let no : true ≡ false = e in absurd (cc)
not_missing false false e t = let no : false ≡ true = t in absurd (cc)

missing-not : (a b : Bool) → (a ≡ true → b ≡ true) → (a && not b) ≡ false
missing-not false b h = refl
missing-not true b h = ap not (h refl)

module _ (policy : Policy) (f : List Server) where
  pub guarded_from : (at : NodeRef) (n : Node) → is_removable policy f at n ≡ false
      → IsGuarded policy f at n
  guarded_from at n e p d q w =
      let loose = is_alterable policy.users policy.groups in
      let a : option_map_or loose (node_of (beside at p) f) false ≡ false = rw q at e in
      let b : loose d ≡ false = rw w at a in b

  pub removable_none : (at : NodeRef) (n : Node) → IsGuarded policy f at n
      → is_removable policy f at n ≡ false
  removable_none at n g = by n.parent refl
    where
      there : (p : ℕ) → n.parent ≡ Some p → (o : Option Node) → node_of (beside at p) f ≡ o
          → option_map_or (is_alterable policy.users policy.groups) o false ≡ false
      there p q None w = refl
      there p q (Some d) w = g p d q w

      by : (o : Option ℕ) → n.parent ≡ o
          → option_map_or (λ p. option_map_or (is_alterable policy.users policy.groups)
          (node_of (beside at p) f) false) o false ≡ false
      by None q = refl
      by (Some p) q = there p q (node_of (beside at p) f) refl

  module _ (rows : List NodeRef) where
    -- a member without a fault is safe
    safe_from : (at : NodeRef) → member_fault policy f rows at ≡ None
        → IsSafeMember policy f (is_row rows) at
    safe_from at e = go (is_inside at policy.hidden f) refl e
      where
        node_none : option_and_then (node_fault policy f rows at) (node_of at f) ≡ None → (n : Node)
            → node_of at f ≡ Some n → node_fault policy f rows at n ≡ None
        node_none t n w = rw w at t

        parts : (n : Node) → node_fault policy f rows at n ≡ None
            → ((if is_hidden at policy.hidden then hidden_fault policy f at n else None) ≡ None)
            × (where_true (is_passable policy.users policy.groups n && not (is_row rows at)) Missing
            ≡ None)
        parts n t =
            no_or (if is_hidden at policy.hidden then hidden_fault policy f at n else None)
            (where_true (is_passable policy.users policy.groups n && not (is_row rows at)) Missing)
            t

        hidden : (n : Node) → node_fault policy f rows at n ≡ None
            → is_hidden at policy.hidden ≡ true
            → (is_open policy.users policy.groups n ≡ false)
            × (is_owned policy.users policy.groups n ≡ false)
            × (is_removable policy f at n ≡ false)
        hidden n t hid =
            hidden-none Open Owned Removable (is_open policy.users policy.groups n)
            (is_owned policy.users policy.groups n) (is_removable policy f at n)
            (under (is_hidden at policy.hidden) (hidden_fault policy f at n) (parts n t).0 hid)

        go : (b : Bool) → is_inside at policy.hidden f ≡ b
            → (if b then Some Inside
            else option_and_then (node_fault policy f rows at) (node_of at f))
            ≡ None → IsSafeMember policy f (is_row rows) at
        go true i t = let no : Some Inside ≡ None = t in absurd (cc)
        go false i t = record {
          outside = i;
          shut =
              λ hid n w. let p = hidden n (node_none t n w) hid in
              record { unused = p.0; unruled = p.1 };
          guarded =
              λ hid n w. let p = hidden n (node_none t n w) hid in guarded_from at n p.2;
          covered =
              λ n w pass. let p = parts n (node_none t n w) in
              not_missing (is_passable policy.users policy.groups n) (is_row rows at)
              (no_where (is_passable policy.users policy.groups n && not (is_row rows at)) Missing
              p.1)
              pass;
        }

    -- a safe member has no fault
    fault_none : (at : NodeRef) → IsSafeMember policy f (is_row rows) at
        → member_fault policy f rows at ≡ None
    fault_none at h =
        ap (λ b. if b then Some Inside
        else option_and_then (node_fault policy f rows at) (node_of at f)) h.outside
        ∙ go (node_of at f) refl
      where
        hidden : (n : Node) → node_of at f ≡ Some n → is_hidden at policy.hidden ≡ true
            → hidden_fault policy f at n ≡ None
        hidden n w hid =
            let shut = h.shut hid n w in
            let a : is_open policy.users policy.groups n ≡ false = shut.unused in
            let b : is_owned policy.users policy.groups n ≡ false = shut.unruled in
            let c : is_removable policy f at n ≡ false = removable_none at n (h.guarded hid n w) in
            rw (a, b, c) refl

        go : (o : Option Node) → node_of at f ≡ o
            → option_and_then (node_fault policy f rows at) o ≡ None
        go None w = refl
        go (Some n) w =
            or_none (if is_hidden at policy.hidden then hidden_fault policy f at n else None)
            (where_true (is_passable policy.users policy.groups n && not (is_row rows at)) Missing)
            (lift (is_hidden at policy.hidden) (hidden_fault policy f at n) (hidden n w))
            (ap (λ b. where_true b Missing)
            (missing-not (is_passable policy.users policy.groups n) (is_row rows at)
            (λ pass. h.covered n w pass)))

    module _ (table : List MountRow) where
      place_safe : (p : NodeRef) → place_fault policy f table rows p ≡ None
          → IsSafe policy f table (is_row rows) p
      place_safe p e =
          each_weaker (λ m. faulty policy f rows m ≡ None)
          (λ m. IsSafeMember policy f (is_row rows) m.node)
          (λ (m : Member) t. safe_from m.node
          (no_map (λ kind. (m.node, kind)) (member_fault policy f rows m.node) t))
          (members_of p table) (first_none (faulty policy f rows) (members_of p table) e)

      place_none : (p : NodeRef) → IsSafe policy f table (is_row rows) p
          → place_fault policy f table rows p ≡ None
      place_none p h =
          none_first (faulty policy f rows) (members_of p table)
          (each_weaker (λ m. IsSafeMember policy f (is_row rows) m.node)
          (λ m. faulty policy f rows m ≡ None)
          (λ (m : Member) s. ap (option_map (λ kind. (m.node, kind))) (fault_none m.node s))
          (members_of p table) h)

-- The table.

given_test : (b : Bool) (g : Gap) → (if b then None else Some g) ≡ None → b ≡ true
given_test true g e = refl
given_test false g e = let no : Some g ≡ None = e in absurd (cc)

module _ (f : List Server) where
  members_from : (ms : List Member) → members_gap f ms ≡ None
      → list_all (λ m. is_given f m.node) ms ≡ true
  members_from [] e = refl
  members_from (m ∷ ms) e =
      let parts = no_or (node_gap f m.node) (members_gap f ms) e in
      and_from (is_given f m.node) _ (given_test (is_given f m.node) (Table m.node) parts.0)
      (members_from ms parts.1)

  members_none : (ms : List Member) → list_all (λ m. is_given f m.node) ms ≡ true
      → members_gap f ms ≡ None
  members_none [] e = refl
  members_none (m ∷ ms) e =
      let parts = and_parts (is_given f m.node) _ e in
      or_none (node_gap f m.node) (members_gap f ms)
      (ap (λ b. if b then None else Some (Table m.node)) parts.0)
      (members_none ms parts.1)

  table_from : (rows : List MountRow) → table_gap f rows ≡ None → is_table_given f rows ≡ true
  table_from [] e = refl
  table_from (row ∷ rows) e =
      let parts = no_or (mount_gap f row) (table_gap f rows) e in
      let here = no_or (node_gap f row.0) (members_gap f row.1) parts.0 in
      and_from (is_row_given f row) _
      (and_from (is_given f row.0) _ (given_test (is_given f row.0) (Table row.0) here.0)
      (members_from row.1 here.1))
      (table_from rows parts.1)

  table_none : (rows : List MountRow) → is_table_given f rows ≡ true → table_gap f rows ≡ None
  table_none [] e = refl
  table_none (row ∷ rows) e =
      let parts = and_parts (is_row_given f row) _ e in
      let here = and_parts (is_given f row.0) _ parts.0 in
      or_none (mount_gap f row) (table_gap f rows)
      (or_none (node_gap f row.0) (members_gap f row.1)
      (ap (λ b. if b then None else Some (Table row.0)) here.0)
      (members_none row.1 here.1)) (table_none rows parts.1)

-- Rows.

module _ (P : NodeRef → Type 0) where
  pub row_found : (rows : List NodeRef) → AllByRecursion P rows → (r : NodeRef) → is_row rows r ≡ true
      → P r
  row_found [] all r t = let no : false ≡ true = t in absurd (cc)
  row_found (x ∷ xs) all r t = go (same_node x r) refl t (row_found xs all.1 r)
    where
      go : (b : Bool) → same_node x r ≡ b → (b || is_row xs r) ≡ true → (is_row xs r ≡ true → P r)
          → P r
      go true s t later = subst P (same_ref x r s) all.0
      go false s t later = later t

  all_rows : (rows : List NodeRef) → ((r : NodeRef) → is_row rows r ≡ true → P r)
      → AllByRecursion P rows
  all_rows [] h = tt
  all_rows (x ∷ xs) h = (
    h x (or_left (same_node x x) _ (same_self x)),
    all_rows xs (λ r t. h r (or_right (same_node x r) _ t)),
  )

-- Children.

module _ (P : Node → Type 0) (t : Node → Bool) where
  filter_found : (xs : List Node) → AllByRecursion P (filter t xs) → (k : ℕ) (n : Node)
      → find (has_number k) xs ≡ Some n → t n ≡ true → P n
  filter_found [] all k n e is = not_some n e
  filter_found (x ∷ xs) all k n e is = go (has_number k x) (t x) refl e all (filter_found xs)
    where
      go : (a b : Bool) → t x ≡ b → (if a then Some x else find (has_number k) xs) ≡ Some n
          → AllByRecursion P (if b then x ∷ filter t xs else filter t xs)
          → (AllByRecursion P (filter t xs) → (k : ℕ) (n : Node)
          → find (has_number k) xs ≡ Some n → t n ≡ true → P n)
          → P n
      go true true s f a later = subst P (some_same x n f) a.0
      go true false s f a later =
          clash (t n) is (subst (λ z. t z ≡ false) (some_same x n f) s)
      go false true s f a later = later a.1 k n f is
      go false false s f a later = later a k n f is

  pub all_filter : (xs : List Node) → AllByRecursion (λ n. t n ≡ true → P n) xs
      → AllByRecursion P (filter t xs)
  all_filter [] all = tt
  all_filter (x ∷ xs) all = go (t x) refl (all_filter xs all.1)
    where
      go : (b : Bool) → t x ≡ b → AllByRecursion P (filter t xs)
          → AllByRecursion P (if b then x ∷ filter t xs else filter t xs)
      go true s rest = (all.0 s, rest)
      go false s rest = rest

pub is-in : (n : Node) (k : ℕ) → n.parent ≡ Some k → is_in k n ≡ true
is-in n k e =
    ap (λ o. option_map_or (λ p. p == k) o false) e
    ∙ (let s : (k == k) ≡ true = grind (arith, nat_tests) in s)

-- a node is in the directory that is its parent
in-parent : (k : ℕ) (m : Node) → is_in k m ≡ true → m.parent ≡ Some k
in-parent k m e = go m.parent refl e
  where
    go : (o : Option ℕ) → m.parent ≡ o → option_map_or (λ parent. parent == k) o false ≡ true
        → m.parent ≡ Some k
    go None is t = let no : false ≡ true = t in absurd (cc)
    go (Some p) is t = is ∙ ap Some (eq_of p k t)

module _ (policy : Policy) (f : List Server) (table : List MountRow) (rows : List NodeRef)
    (sound : IsForest f) where
  -- each child of the row is a safe place
  abbrev AreSafe : NodeRef → Type 0
  AreSafe r = (k : ℕ) (n : Node) → node_of (beside r k) f ≡ Some n → n.parent ≡ Some r.number
      → IsSafe policy f table (is_row rows) (beside r k)

  shown_from : (number : ℕ) (row : NodeRef) → row_gap policy f number row ≡ None
      → IsShown policy f row
  shown_from number row e =
      let parts = row_fault-none policy f row (no_map (Row number) (row_fault policy f row) e) in
      record { dir = parts.0; not_hidden = parts.1; outside = parts.2 }

  shown_none : (number : ℕ) (row : NodeRef) → IsShown policy f row
      → row_gap policy f number row ≡ None
  shown_none number row w = rw (w.dir, w.not_hidden, w.outside) refl

  children_from : (number : ℕ) (row : NodeRef)
      → children_gap policy f table rows number row ≡ None → AreSafe row
  children_from number row e k n there in_row =
      let all =
      first_none (child_gap policy f table rows number row) (children_of row f) e in
      let here : child_gap policy f table rows number row n ≡ None =
      filter_found (λ m. child_gap policy f table rows number row m ≡ None) (is_in row.number)
      (server_at row.server f).nodes all k n there (is-in n row.number in_row) in
      subst (λ j. IsSafe policy f table (is_row rows) (beside row j))
      (number-node_at k (server_at row.server f).nodes n there)
      (place_safe policy f rows table (beside row n.number) (no_map _ _ here))

  children_none : (number : ℕ) (row : NodeRef) → AreSafe row
      → children_gap policy f table rows number row ≡ None
  children_none number row h =
      none_first (child_gap policy f table rows number row) (children_of row f)
      (all_filter (λ m. child_gap policy f table rows number row m ≡ None) (is_in row.number)
      (server_at row.server f).nodes
      (each_weaker (λ n. node_at n.number (server_at row.server f).nodes ≡ Some n)
      (λ n. is_in row.number n ≡ true → child_gap policy f table rows number row n ≡ None)
      (λ n found t. ap (option_map (λ fault. Child number (beside row n.number) fault.0 fault.1))
      (place_none policy f rows table (beside row n.number)
      (h n.number n found (in-parent row.number n t))))
      (server_at row.server f).nodes
      (recursion_from_All (λ n. node_at n.number (server_at row.server f).nodes ≡ Some n)
      (server_at row.server f).nodes
      (each_found (server_at row.server f).nodes (server_ordered f sound row.server).rising))))

  closed_from : first_gap policy f table rows ≡ None → IsClosed policy f table (is_row rows)
  closed_from e =
      let a = no_or (table_gap f table) _ e in
      let b = no_or (first_counted (row_gap policy f) 1 rows) _ a.1 in
      let c = no_or (root_gap policy f table rows) _ b.1 in
      let shown = counted-none (row_gap policy f) (IsShown policy f) shown_from 1 rows b.0 in
      let kids =
      counted-none (children_gap policy f table rows) AreSafe children_from 1 rows c.1 in
      record {
        given = table_from f table a.0;
        rows = λ r t. row_found (IsShown policy f) rows shown r t;
        root = place_safe policy f rows table root_place (no_map _ _ c.0);
        children = λ r k n t there in_row. row_found AreSafe rows kids r t k n there in_row;
      }

  closed_none : IsClosed policy f table (is_row rows) → first_gap policy f table rows ≡ None
  closed_none h =
      or_none (table_gap f table) _ (table_none f table h.given)
      (or_none (first_counted (row_gap policy f) 1 rows) _
      (none-counted (row_gap policy f) (IsShown policy f) shown_none 1 rows
      (all_rows (IsShown policy f) rows h.rows))
      (or_none (root_gap policy f table rows) _
      (ap (option_map (λ fault. Root fault.0 fault.1))
      (place_none policy f rows table root_place h.root))
      (none-counted (children_gap policy f table rows) AreSafe children_none 1 rows
      (all_rows AreSafe rows (λ r t k n there in_row. h.children r k n t there in_row)))))

pub no_gap_is_closed : NoGapIsClosed
no_gap_is_closed policy f table rows sound =
    (closed_from policy f table rows sound, closed_none policy f table rows sound)

-- What is accepted.

ok-none : (r : Result (Unit {0}) Gap) → IsOk r → result_err r ≡ None
ok-none (Ok done) ok = refl
ok-none (Err gap) ok = let no : false ≡ true = ok in absurd (cc)

none-ok : (r : Result (Unit {0}) Gap) → result_err r ≡ None → IsOk r
none-ok (Ok done) none = refl
none-ok (Err gap) none = let no : Some gap ≡ None = none in absurd (cc)

-- a check that returns the first gap accepts exactly what is closed
pub accepted : (policy : Policy) (forest : List Server) (table : List MountRow)
    (rows : List NodeRef) (r : Result (Unit {0}) Gap) → IsForest forest
    → result_err r ≡ first_gap policy forest table rows
    → IsOk r ↔ IsClosed policy forest table (is_row rows)
accepted policy forest table rows r sound same =
    let law = no_gap_is_closed policy forest table rows sound in (
      λ ok. law.0 (sym same ∙ ok-none r ok),
      λ closed. none-ok r (same ∙ law.1 closed),
    )

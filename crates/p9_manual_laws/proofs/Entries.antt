-- The order of a directory's entries, and what is behind those that were given.
use Rattle.std.proofs.Common.{◌≡◌, ℕ, suc, ◌<◌, ◌≤◌, Bool, true, false, List, [], ◌∷◌, ◌++◌, Option}
use Rattle.std.proofs.Common.{get_or, ◌-◌, Some, None, refl, ap, sym, ◌∙◌, subst, arith, AllPairs, filter, map, length}
use Rattle.std.specs.Prelude.{nat_le}
use Rattle.std.specs.List.{AllByRecursion}
use Rattle.std.proofs.lemmas.Bool.Decides.{nat_tests}
use Rattle.std.proofs.lemmas.List.{append_assoc}
use Rattle.p9_base.specs.declared.node_ref.NodeRef.{NodeRef}
use Rattle.p9_tree.specs.Forest.{IsForest, children_of, node_of, server_at}
use Rattle.p9_tree.specs.Node.{Node, has_number, is_in}
use Rattle.p9_tree.specs.Server.{Server, WellFormed}
use Rattle.p9_tree.proofs.Lookups.{rising_head, rising_tail}
use Rattle.p9_table.specs.declared.row.Member.{Member}
use Rattle.p9_space.specs.Rights.{Who}
use Rattle.p9_fids.specs.declared.opened.Cursor.{Cursor}
use Rattle.p9_step.specs.Listing.{UnionEntry, cursor_of, entries_from, entries_of, entry_at, is_behind}
use Rattle.p9_step.specs.Listing.{is_listed}
use Rattle.p9_step.specs.Read.{cursor_after, entry_bytes, fitting}
use Rattle.p9_step.proofs.Evolves.{server_well}
use Rattle.p9_step.proofs.Members.{found-member}

-- each entry is behind those before it
abbrev pub InOrder : List UnionEntry → Type 0
InOrder [] = Unit {0}
InOrder (e ∷ es) = AllByRecursion (λ x. is_behind (Some (cursor_of e)) x ≡ true) es × InOrder es

module _ {X : Type 0} (P : X → Type 0) where
  all_append : (xs ys : List X) → AllByRecursion P xs → AllByRecursion P ys
      → AllByRecursion P (xs ++ ys)
  all_append [] ys one other = other
  all_append (x ∷ xs) ys one other = (one.0, all_append xs ys one.1 other)

  all_at : (xs : List X) (y : X) (ys : List X) → AllByRecursion P (xs ++ y ∷ ys) → P y
  all_at [] y ys all = all.0
  all_at (x ∷ xs) y ys all = all_at xs y ys all.1

  all_from : (xs : List X) → ((i : ℕ) (d : X) → i < length xs → P (get_or xs i d))
      → AllByRecursion P xs
  all_from [] each = tt
  all_from (x ∷ xs) each =
      (each 0 x (omega arith), all_from xs (λ i d within. each (suc i) d (omega arith)))

  all_filter : (test : X → Bool) (xs : List X) → AllByRecursion P xs
      → AllByRecursion P (filter test xs)
  all_filter test [] all = tt
  all_filter test (x ∷ xs) all = go (test x) refl (all_filter test xs all.1)
    where
      go : (b : Bool) → test x ≡ b → AllByRecursion P (filter test xs)
          → AllByRecursion P (filter test (x ∷ xs))
      go true e later = rw e (all.0, later)
      go false e later = rw e later

all_map : {X Y : Type 0} (f : X → Y) (P : Y → Type 0) (Q : X → Type 0)
    → ((x : X) → Q x → P (f x)) → (xs : List X) → AllByRecursion Q xs
    → AllByRecursion P (map f xs)
all_map f P Q each [] all = tt
all_map f P Q each (x ∷ xs) all = (each x all.0, all_map f P Q each xs all.1)

all_pass : {X : Type 0} (test : X → Bool) (xs : List X)
    → AllByRecursion (λ x. test x ≡ true) xs → filter test xs ≡ xs
all_pass test [] all = refl
all_pass test (x ∷ xs) all = rw (all.0) (ap (λ ys. x ∷ ys) (all_pass test xs all.1))

all_then : {X : Type 0} (P Q : X → Type 0) → ((x : X) → P x → Q x) → (xs : List X)
    → AllByRecursion P xs → AllByRecursion Q xs
all_then P Q each [] all = tt
all_then P Q each (x ∷ xs) all = (each x all.0, all_then P Q each xs all.1)

-- Where the entries behind one of them are.

not_itself : (e : UnionEntry) → is_behind (Some (cursor_of e)) e ≡ false
not_itself e = grind (arith, nat_tests)

not_before : (e x : UnionEntry) → is_behind (Some (cursor_of x)) e ≡ true
    → is_behind (Some (cursor_of e)) x ≡ false
not_before e x behind = grind (arith, nat_tests)

behind_one : (before : List UnionEntry) (e : UnionEntry) (others : List UnionEntry)
    → InOrder (before ++ e ∷ others)
    → filter (is_behind (Some (cursor_of e))) (before ++ e ∷ others) ≡ others
behind_one [] e others order =
    rw (not_itself e) (all_pass (is_behind (Some (cursor_of e))) others order.0)
behind_one (x ∷ before) e others order =
    let past =
    not_before e x (all_at (λ y. is_behind (Some (cursor_of x)) y ≡ true) before e others order.0)
    in
    rw past (behind_one before e others order.1)

-- behind the entries that were given are the others
pub behind_given : (before given others : List UnionEntry) (c : Option Cursor)
    → InOrder (before ++ (given ++ others))
    → filter (is_behind c) (before ++ (given ++ others)) ≡ given ++ others
    → filter (is_behind (cursor_after c given)) (before ++ (given ++ others)) ≡ others
behind_given before [] others c order left = left
behind_given before (e ∷ es) others c order left =
    let shift : (before ++ e ∷ []) ++ (es ++ others) ≡ before ++ (e ∷ es ++ others) =
    append_assoc before (e ∷ []) (es ++ others) in
    let moved =
    behind_given (before ++ e ∷ []) es others (Some (cursor_of e))
    (subst InOrder (sym shift) order)
    (ap (λ xs. filter (is_behind (Some (cursor_of e))) xs) shift
    ∙ behind_one before e (es ++ others) order) in
    ap (λ xs. filter (is_behind (cursor_after (Some (cursor_of e)) es)) xs) (sym shift) ∙ moved

-- those that have room are the first of them
pub fitting_first : (room : ℕ) (left : List UnionEntry)
    → (others : List UnionEntry) × (left ≡ fitting room left ++ others)
fitting_first room [] = ([], refl)
fitting_first room (e ∷ es) =
    go (nat_le (length (entry_bytes e)) room) refl
    (fitting_first (room - length (entry_bytes e)) es)
  where
    go : (b : Bool) → nat_le (length (entry_bytes e)) room ≡ b
        → (others : List UnionEntry)
        × (es ≡ fitting (room - length (entry_bytes e)) es ++ others)
        → (others : List UnionEntry) × (e ∷ es ≡ fitting room (e ∷ es) ++ others)
    go true fits later = (later.0, rw fits (ap (λ xs. e ∷ xs) later.1))
    go false fits later = (e ∷ es, rw fits refl)

-- The entries of a place are in order.

order_append : (xs ys : List UnionEntry) → InOrder xs → InOrder ys
    → AllByRecursion (λ x. AllByRecursion (λ y. is_behind (Some (cursor_of x)) y ≡ true) ys) xs
    → InOrder (xs ++ ys)
order_append [] ys one other between = other
order_append (x ∷ xs) ys one other between = (
  all_append (λ y. is_behind (Some (cursor_of x)) y ≡ true) xs ys one.0 between.0,
  order_append xs ys one.1 other between.1,
)

-- nodes by rising number, each below all that follow
abbrev RisingNodes : List Node → Type 0
RisingNodes [] = Unit {0}
RisingNodes (n ∷ ns) = AllByRecursion (λ m. n.number < m.number) ns × RisingNodes ns

rising_nodes : (xs : List Node) → AllPairs (λ m n. m.number < n.number) xs → RisingNodes xs
rising_nodes [] rising = tt
rising_nodes (x ∷ xs) rising = (
  all_from (λ m. x.number < m.number) xs (rising_head x xs rising),
  rising_nodes xs (rising_tail x xs rising),
)

rising_filter : (test : Node → Bool) (xs : List Node) → RisingNodes xs
    → RisingNodes (filter test xs)
rising_filter test [] rising = tt
rising_filter test (x ∷ xs) rising = go (test x) refl (rising_filter test xs rising.1)
  where
    go : (b : Bool) → test x ≡ b → RisingNodes (filter test xs) → RisingNodes (filter test (x ∷ xs))
    go true e later = rw e (all_filter (λ m. x.number < m.number) test xs rising.0, later)
    go false e later = rw e later

order_member : (position : ℕ) (member : NodeRef) (xs : List Node) → RisingNodes xs
    → InOrder (map (entry_at position member) xs)
order_member position member [] rising = tt
order_member position member (x ∷ xs) rising = (
  all_map (entry_at position member)
      (λ y. is_behind (Some (cursor_of (entry_at position member x))) y ≡ true)
      (λ m. x.number < m.number) (λ m below. grind (arith, nat_tests, below)) xs rising.0,
  order_member position member xs rising.1,
)

all_here : (position : ℕ) (member : NodeRef) (xs : List Node)
    → AllByRecursion (λ (e : UnionEntry). e.position ≡ position) (map (entry_at position member) xs)
all_here position member [] = tt
all_here position member (x ∷ xs) = (refl, all_here position member xs)

module _ (forest : List Server) (sound : IsForest forest) (who : Who) where
  abbrev here_of : ℕ → Member → List UnionEntry
  here_of position m = entries_of forest who position m

  rising_children : (dir : NodeRef) (n : Node) → node_of dir forest ≡ Some n
      → RisingNodes (children_of dir forest)
  rising_children dir n there =
      let member =
      (found-member (has_number dir.number) (server_at dir.server forest).nodes n there).0 in
      let well : WellFormed (server_at dir.server forest) =
      server_well forest dir.server n sound member in
      rising_filter (is_in dir.number) (server_at dir.server forest).nodes
      (rising_nodes (server_at dir.server forest).nodes well.rising)

  -- those of one member
  order_of : (position : ℕ) (m : Member)
      → InOrder (here_of position m)
      × AllByRecursion (λ (e : UnionEntry). e.position ≡ position) (here_of position m)
  order_of position m = go (node_of m.node forest) refl
    where
      listed : (n : Node) → node_of m.node forest ≡ Some n
          → (b : Bool) → is_listed forest who position m ≡ b
          → InOrder (here_of position m)
          × AllByRecursion (λ (e : UnionEntry). e.position ≡ position) (here_of position m)
      listed n there true e =
          rw e (
            order_member position m.node (children_of m.node forest)
                (rising_children m.node n there),
            all_here position m.node (children_of m.node forest),
          )
      listed n there false e = rw e (tt, tt)

      go : (o : Option Node) → node_of m.node forest ≡ o
          → InOrder (here_of position m)
          × AllByRecursion (λ (e : UnionEntry). e.position ≡ position) (here_of position m)
      go None e = rw e (tt, tt)
      go (Some n) e = listed n e (is_listed forest who position m) refl

  -- and those of the members from a position on
  pub order_from : (position : ℕ) (ms : List Member)
      → InOrder (entries_from forest who position ms)
      × AllByRecursion (λ (e : UnionEntry). position ≤ e.position) (entries_from forest who position ms)
  order_from position [] = (tt, tt)
  order_from position (m ∷ ms) =
      let one = order_of position m in
      let others = order_from (suc position) ms in
      let rest = entries_from forest who (suc position) ms in (
        order_append (here_of position m) rest one.0 others.0
            (all_then (λ (x : UnionEntry). x.position ≡ position)
            (λ x. AllByRecursion (λ y. is_behind (Some (cursor_of x)) y ≡ true) rest)
            (λ x at. all_then (λ (y : UnionEntry). suc position ≤ y.position)
            (λ y. is_behind (Some (cursor_of x)) y ≡ true) (λ y past. grind (arith, nat_tests, at, past))
            rest others.1) (here_of position m) one.1),
        all_append (λ (e : UnionEntry). position ≤ e.position) (here_of position m) rest
            (all_then (λ (x : UnionEntry). x.position ≡ position) (λ (e : UnionEntry). position ≤ e.position)
            (λ x at. omega (arith, at)) (here_of position m) one.1)
            (all_then (λ (y : UnionEntry). suc position ≤ y.position) (λ (e : UnionEntry). position ≤ e.position)
            (λ y past. omega (arith, past)) rest others.1),
      )

-- What the checker finds doesn't depend on a forest's times of last access.
use Rattle.std.proofs.Common.{◌≡◌, ◌∙◌, ℕ, ◌+◌, ◌&&◌, List, [], ◌∷◌, Option, Some, None}
use Rattle.std.proofs.Common.{false, not, refl, sym, ap, map}
use Rattle.std.specs.Prelude.{nat_lt, option_and_then, option_map, if◌then◌else◌}
use Rattle.std.specs.Option.{option_map_or, option_or}
use Rattle.p9_base.specs.declared.node_ref.NodeRef.{NodeRef}
use Rattle.p9_base.specs.NodeRef.{beside}
use Rattle.p9_tree.specs.Forest.{children_of, is_dir_of, node_of}
use Rattle.p9_tree.specs.Inside.{is_hidden, is_inside}
use Rattle.p9_tree.specs.Journal.{IsAlike}
use Rattle.p9_tree.specs.Node.{Node, touched}
use Rattle.p9_tree.specs.Server.{Server}
use Rattle.p9_tree.specs.Unread.{all_unread}
use Rattle.p9_space.specs.Place.{root_place}
use Rattle.p9_space.specs.Table.{MountRow, members_of}
use Rattle.p9_table.specs.declared.row.Member.{Member}
use Rattle.p9_cert.specs.Gap.{child_gap, children_gap, faulty, first_counted, first_gap, first_of}
use Rattle.p9_cert.specs.Gap.{hidden_fault, is_removable, member_fault, members_gap, mount_gap}
use Rattle.p9_cert.specs.Gap.{node_fault, node_gap, place_fault, place_gap, root_gap, row_fault}
use Rattle.p9_cert.specs.Gap.{row_gap, table_gap, where_true}
use Rattle.p9_cert.specs.Listed.{is_alterable, is_open, is_owned, is_passable}
use Rattle.p9_cert.specs.Policy.{Policy}
use Rattle.p9_cert.specs.Rows.{is_row}
use Rattle.p9_cert.specs.declared.gap.Gap.TheVariants.{Child, Root, Row, Table}
use Rattle.p9_cert.specs.declared.gap.MemberFault.TheVariants.{Inside, Missing, Open, Owned, Removable}
use Rattle.p9_cert.specs.declared.gap.RowFault.TheVariants.{Absent}
use Rattle.p9_cert.specs.declared.gap.RowFault.TheVariants.{Hidden as HiddenRow}
use Rattle.p9_cert.specs.declared.gap.RowFault.TheVariants.{Inside as InsideRow}
use Rattle.p9_kept_laws.proofs.Alike.{asked-unread, children_of-unread, is_dir_of-unread}
use Rattle.p9_kept_laws.proofs.Alike.{is_inside-unread, next_of-unread, node_of-unread}

-- Lists.

first_of-same : {X Y : Type 0} (f g : X → Option Y) → ((x : X) → f x ≡ g x) → (xs : List X)
    → first_of f xs ≡ first_of g xs
first_of-same f g same [] = refl
first_of-same f g same (x ∷ xs) =
    ap (λ o. option_or o (first_of f xs)) (same x)
    ∙ ap (option_or (g x)) (first_of-same f g same xs)

first_counted-same : {X Y : Type 0} (f g : ℕ → X → Option Y) → ((k : ℕ) (x : X) → f k x ≡ g k x)
    → (k : ℕ) (xs : List X) → first_counted f k xs ≡ first_counted g k xs
first_counted-same f g same k [] = refl
first_counted-same f g same k (x ∷ xs) =
    ap (λ o. option_or o (first_counted f (k + 1) xs)) (same k x)
    ∙ ap (option_or (g k x)) (first_counted-same f g same (k + 1) xs)

first_of-map : {Y : Type 0} (f g : Node → Option Y) → ((n : Node) → f (touched 0 n) ≡ g n)
    → (ns : List Node) → first_of f (map (touched 0) ns) ≡ first_of g ns
first_of-map f g same [] = refl
first_of-map f g same (n ∷ ns) =
    ap (λ o. option_or o (first_of f (map (touched 0) ns))) (same n)
    ∙ ap (option_or (g n)) (first_of-map f g same ns)

-- What listed users may do.

module _ (policy : Policy) where
  alterable-unread : (n : Node) → is_alterable policy.users policy.groups (touched 0 n)
      ≡ is_alterable policy.users policy.groups n
  unfolding is_alterable
  alterable-unread n = refl

  open-unread : (n : Node) → is_open policy.users policy.groups (touched 0 n)
      ≡ is_open policy.users policy.groups n
  unfolding is_open
  open-unread n = refl

  owned-unread : (n : Node) → is_owned policy.users policy.groups (touched 0 n)
      ≡ is_owned policy.users policy.groups n
  unfolding is_owned
  owned-unread n = refl

  passable-unread : (n : Node) → is_passable policy.users policy.groups (touched 0 n)
      ≡ is_passable policy.users policy.groups n
  unfolding is_passable
  passable-unread n = refl

  module _ (fs : List Server) where
    removable-by : (at : NodeRef) (parent : Option ℕ)
        → option_map_or (λ p. option_map_or (is_alterable policy.users policy.groups)
        (node_of (beside at p) (all_unread fs)) false) parent false
        ≡ option_map_or (λ p. option_map_or (is_alterable policy.users policy.groups)
        (node_of (beside at p) fs) false) parent false
    removable-by at (Some p) =
        ap (λ o. option_map_or (is_alterable policy.users policy.groups) o false)
        (node_of-unread (beside at p) fs)
        ∙ asked-unread (is_alterable policy.users policy.groups) false alterable-unread
        (node_of (beside at p) fs)
    removable-by at None = refl

    removable-unread : (at : NodeRef) (n : Node)
        → is_removable policy (all_unread fs) at (touched 0 n) ≡ is_removable policy fs at n
    removable-unread at n = removable-by at n.parent

    hidden_fault-unread : (at : NodeRef) (n : Node)
        → hidden_fault policy (all_unread fs) at (touched 0 n) ≡ hidden_fault policy fs at n
    hidden_fault-unread at n =
        ap (λ t. if t then Some Open
        else if is_owned policy.users policy.groups (touched 0 n) then Some Owned
        else where_true (is_removable policy (all_unread fs) at (touched 0 n)) Removable)
        (open-unread n)
        ∙ ap (λ t. if is_open policy.users policy.groups n then Some Open
        else if t then Some Owned
        else where_true (is_removable policy (all_unread fs) at (touched 0 n)) Removable)
        (owned-unread n)
        ∙ ap (λ t. if is_open policy.users policy.groups n then Some Open
        else if is_owned policy.users policy.groups n then Some Owned
        else where_true t Removable)
        (removable-unread at n)

    row_fault-unread : (at : NodeRef)
        → row_fault policy (all_unread fs) at ≡ row_fault policy fs at
    row_fault-unread at =
        ap (λ t. if not t then Some Absent
        else if is_hidden at policy.hidden then Some HiddenRow
        else where_true (is_inside at policy.hidden (all_unread fs)) InsideRow)
        (is_dir_of-unread at fs)
        ∙ ap (λ t. if not (is_dir_of at fs) then Some Absent
        else if is_hidden at policy.hidden then Some HiddenRow
        else where_true t InsideRow)
        (is_inside-unread at policy.hidden fs)

    row_gap-unread : (number : ℕ) (row : NodeRef)
        → row_gap policy (all_unread fs) number row ≡ row_gap policy fs number row
    row_gap-unread number row = ap (option_map (Row number)) (row_fault-unread row)

    module _ (rows : List NodeRef) where
      node_fault-unread : (at : NodeRef) (n : Node)
          → node_fault policy (all_unread fs) rows at (touched 0 n)
          ≡ node_fault policy fs rows at n
      node_fault-unread at n =
          ap (λ o. option_or (if is_hidden at policy.hidden then o else None)
          (where_true (is_passable policy.users policy.groups (touched 0 n)
          && not (is_row rows at)) Missing))
          (hidden_fault-unread at n)
          ∙ ap (λ t. option_or
          (if is_hidden at policy.hidden then hidden_fault policy fs at n else None)
          (where_true (t && not (is_row rows at)) Missing))
          (passable-unread n)

      node_fault-of : (at : NodeRef) (o : Option Node)
          → option_and_then (node_fault policy (all_unread fs) rows at) (option_map (touched 0) o)
          ≡ option_and_then (node_fault policy fs rows at) o
      node_fault-of at (Some n) = node_fault-unread at n
      node_fault-of at None = refl

      member_fault-unread : (at : NodeRef)
          → member_fault policy (all_unread fs) rows at ≡ member_fault policy fs rows at
      member_fault-unread at =
          ap (λ t. if t then Some Inside
          else option_and_then (node_fault policy (all_unread fs) rows at)
          (node_of at (all_unread fs)))
          (is_inside-unread at policy.hidden fs)
          ∙ ap (λ o. if is_inside at policy.hidden fs then Some Inside
          else option_and_then (node_fault policy (all_unread fs) rows at) o)
          (node_of-unread at fs)
          ∙ ap (λ o. if is_inside at policy.hidden fs then Some Inside else o)
          (node_fault-of at (node_of at fs))

      faulty-unread : (m : Member)
          → faulty policy (all_unread fs) rows m ≡ faulty policy fs rows m
      faulty-unread m = ap (option_map (λ kind. (m.node, kind))) (member_fault-unread m.node)

      module _ (table : List MountRow) where
        place_fault-unread : (place : NodeRef)
            → place_fault policy (all_unread fs) table rows place
            ≡ place_fault policy fs table rows place
        place_fault-unread place =
            first_of-same (faulty policy (all_unread fs) rows) (faulty policy fs rows)
            faulty-unread (members_of place table)

        root_gap-unread : root_gap policy (all_unread fs) table rows
            ≡ root_gap policy fs table rows
        root_gap-unread =
            ap (option_map (λ fault. Root fault.0 fault.1)) (place_fault-unread root_place)

        place_gap-unread : (number : ℕ) (place : NodeRef)
            → place_gap policy (all_unread fs) table rows number place
            ≡ place_gap policy fs table rows number place
        place_gap-unread number place =
            ap (option_map (λ fault. Child number place fault.0 fault.1))
            (place_fault-unread place)

        children_gap-unread : (number : ℕ) (row : NodeRef)
            → children_gap policy (all_unread fs) table rows number row
            ≡ children_gap policy fs table rows number row
        children_gap-unread number row =
            ap (first_of (child_gap policy (all_unread fs) table rows number row))
            (children_of-unread row fs)
            ∙ first_of-map (child_gap policy (all_unread fs) table rows number row)
            (child_gap policy fs table rows number row)
            (λ n. place_gap-unread number (beside row n.number)) (children_of row fs)

module _ (fs : List Server) where
  node_gap-unread : (at : NodeRef) → node_gap (all_unread fs) at ≡ node_gap fs at
  node_gap-unread at =
      ap (λ next. if nat_lt at.number next then None else Some (Table at))
      (next_of-unread at.server fs)

  mount_gap-unread : (row : MountRow) → mount_gap (all_unread fs) row ≡ mount_gap fs row
  mount_gap-unread row =
      ap (λ o. option_or o (members_gap (all_unread fs) row.1)) (node_gap-unread row.0)
      ∙ ap (option_or (node_gap fs row.0))
      (first_of-same (λ m. node_gap (all_unread fs) m.node) (λ m. node_gap fs m.node)
      (λ m. node_gap-unread m.node) row.1)

  table_gap-unread : (table : List MountRow) → table_gap (all_unread fs) table ≡ table_gap fs table
  table_gap-unread table =
      first_of-same (mount_gap (all_unread fs)) (mount_gap fs) mount_gap-unread table

-- the first gap
gap-unread : (policy : Policy) (fs : List Server) (table : List MountRow) (rows : List NodeRef)
    → first_gap policy (all_unread fs) table rows ≡ first_gap policy fs table rows
gap-unread policy fs table rows =
    ap (λ o. option_or o (
    option_or (first_counted (row_gap policy (all_unread fs)) 1 rows) (
    option_or (root_gap policy (all_unread fs) table rows)
    (first_counted (children_gap policy (all_unread fs) table rows) 1 rows))))
    (table_gap-unread fs table)
    ∙ ap (λ o. option_or (table_gap fs table) (option_or o (
    option_or (root_gap policy (all_unread fs) table rows)
    (first_counted (children_gap policy (all_unread fs) table rows) 1 rows))))
    (first_counted-same (row_gap policy (all_unread fs)) (row_gap policy fs)
    (row_gap-unread policy fs) 1 rows)
    ∙ ap (λ o. option_or (table_gap fs table) (
    option_or (first_counted (row_gap policy fs) 1 rows) (option_or o
    (first_counted (children_gap policy (all_unread fs) table rows) 1 rows))))
    (root_gap-unread policy fs rows table)
    ∙ ap (λ o. option_or (table_gap fs table) (
    option_or (first_counted (row_gap policy fs) 1 rows) (
    option_or (root_gap policy fs table rows) o)))
    (first_counted-same (children_gap policy (all_unread fs) table rows)
    (children_gap policy fs table rows) (children_gap-unread policy fs rows table) 1 rows)

pub gap-alike : (policy : Policy) (fs gs : List Server) (table : List MountRow)
    (rows : List NodeRef) → IsAlike fs gs
    → first_gap policy fs table rows ≡ first_gap policy gs table rows
gap-alike policy fs gs table rows alike =
    sym (gap-unread policy fs table rows)
    ∙ ap (λ f. first_gap policy f table rows) alike
    ∙ gap-unread policy gs table rows

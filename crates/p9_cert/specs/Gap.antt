-- The first reason why a certificate is not closed, and the line that is printed for it.
use Rattle.std.specs.Prelude.{ℕ, ◌+◌, ◌&&◌, Bool, false, not, List, [], ◌∷◌, ◌++◌, Option, Some}
use Rattle.std.specs.Prelude.{None}
use Rattle.std.specs.Prelude.{codes, option_and_then, if◌then◌else◌}
use Rattle.std.specs.Fmt.{decimal}
use Rattle.std.specs.Option.{option_map, option_map_or, option_or}
use Rattle.p9_base.specs.declared.node_ref.NodeRef.{NodeRef}
use Rattle.p9_base.specs.NodeRef.{beside}
use Rattle.p9_tree.specs.Node.{Node}
use Rattle.p9_tree.specs.Server.{Server}
use Rattle.p9_tree.specs.Forest.{children_of, is_dir_of, node_of}
use Rattle.p9_tree.specs.Inside.{is_hidden, is_inside}
use Rattle.p9_table.specs.declared.row.Member.{Member}
use Rattle.p9_space.specs.Given.{is_given}
use Rattle.p9_space.specs.Place.{root_place}
use Rattle.p9_space.specs.Table.{MountRow, members_of}
use Rattle.p9_policy.specs.Listed.{is_alterable, is_open, is_owned, is_passable}
use Rattle.p9_policy.specs.Policy.{Policy}
use Rattle.p9_policy.specs.Rows.{is_row}
use Rattle.p9_cert.specs.declared.gap.Gap.{Gap}
use Rattle.p9_cert.specs.declared.gap.Gap.TheVariants.{Table, Row, Root, Child}
use Rattle.p9_cert.specs.declared.gap.MemberFault.{MemberFault}
use Rattle.p9_cert.specs.declared.gap.MemberFault.TheVariants.{Inside, Open, Owned, Removable}
use Rattle.p9_cert.specs.declared.gap.MemberFault.TheVariants.{Missing}
use Rattle.p9_cert.specs.declared.gap.RowFault.{RowFault}
use Rattle.p9_cert.specs.declared.gap.RowFault.TheVariants.{Absent}
use Rattle.p9_cert.specs.declared.gap.RowFault.TheVariants.{Hidden as HiddenRow}
use Rattle.p9_cert.specs.declared.gap.RowFault.TheVariants.{Inside as InsideRow}

-- the first that there is
abbrev pub first_of : {X Y : Type 0} → (X → Option Y) → List X → Option Y
first_of f [] = None
first_of f (x ∷ xs) = option_or (f x) (first_of f xs)

-- the first that there is, of things that are counted from a number on
abbrev pub first_counted : {X Y : Type 0} → (ℕ → X → Option Y) → ℕ → List X → Option Y
first_counted f k [] = None
first_counted f k (x ∷ xs) = option_or (f k x) (first_counted f (k + 1) xs)

-- where the test passes, this
abbrev pub where_true : {X : Type 0} → Bool → X → Option X
where_true test x = if test then Some x else None

module _ (policy : Policy) (forest : List Server) where
  -- a listed user may alter the directory that the node is in
  abbrev pub is_removable : NodeRef → Node → Bool
  is_removable at n =
      option_map_or
      (λ p. option_map_or (is_alterable policy.users policy.groups)
      (node_of (beside at p) forest) false)
      n.parent false

  -- what is wrong with a hidden directory
  abbrev pub hidden_fault : NodeRef → Node → Option MemberFault
  hidden_fault at n =
      if is_open policy.users policy.groups n then Some Open
      else if is_owned policy.users policy.groups n then Some Owned
      else where_true (is_removable at n) Removable

  -- what is wrong with a row of the certificate
  abbrev pub row_fault : NodeRef → Option RowFault
  row_fault at =
      if not (is_dir_of at forest) then Some Absent
      else if is_hidden at policy.hidden then Some HiddenRow
      else where_true (is_inside at policy.hidden forest) InsideRow

  -- the gap at the row of a number
  abbrev pub row_gap : ℕ → NodeRef → Option Gap
  row_gap number row = option_map (Row number) (row_fault row)

  module _ (rows : List NodeRef) where
    -- what is wrong with a member that exists and isn't inside
    abbrev pub node_fault : NodeRef → Node → Option MemberFault
    node_fault at n =
        option_or (if is_hidden at policy.hidden then hidden_fault at n else None)
        (where_true (is_passable policy.users policy.groups n && not (is_row rows at)) Missing)

    -- what is wrong with a member; an absent one is safe
    abbrev pub member_fault : NodeRef → Option MemberFault
    member_fault at =
        if is_inside at policy.hidden forest then Some Inside
        else option_and_then (node_fault at) (node_of at forest)

    -- the member, with what is wrong with it
    abbrev pub faulty : Member → Option (NodeRef × MemberFault)
    faulty m = option_map (λ kind. (m.node, kind)) (member_fault m.node)

module _ (forest : List Server) where
  -- a key or a member of the table whose number wasn't given
  abbrev pub node_gap : NodeRef → Option Gap
  node_gap at = if is_given forest at then None else Some (Table at)

  -- of members, in order
  abbrev pub members_gap : List Member → Option Gap
  members_gap members = first_of (λ m. node_gap m.node) members

  -- of a row of the table, the key and then the members
  abbrev pub mount_gap : MountRow → Option Gap
  mount_gap row = option_or (node_gap row.0) (members_gap row.1)

  -- of the table, row by row
  abbrev pub table_gap : List MountRow → Option Gap
  table_gap table = first_of mount_gap table

module _ (policy : Policy) (forest : List Server) (table : List MountRow)
    (rows : List NodeRef) where
  -- the first member of a place with which something is wrong
  abbrev pub place_fault : NodeRef → Option (NodeRef × MemberFault)
  place_fault place = first_of (faulty policy forest rows) (members_of place table)

  -- of the root place
  abbrev pub root_gap : Option Gap
  root_gap = option_map (λ fault. Root fault.0 fault.1) (place_fault root_place)

  -- of a place that is a child of the row of a number
  abbrev pub place_gap : ℕ → NodeRef → Option Gap
  place_gap number place =
      option_map (λ fault. Child number place fault.0 fault.1) (place_fault place)

  -- the gap at a node that is a child of the row of a number
  abbrev pub child_gap : ℕ → NodeRef → Node → Option Gap
  child_gap number row n = place_gap number (beside row n.number)

  -- of the row's children, by rising number
  abbrev pub children_gap : ℕ → NodeRef → Option Gap
  children_gap number row = first_of (child_gap number row) (children_of row forest)

  -- the first gap: of the table, then of the rows, then of the root place, then of the rows'
  -- children
  abbrev pub first_gap : Option Gap
  first_gap =
      option_or (table_gap forest table) (
      option_or (first_counted (row_gap policy forest) 1 rows) (
      option_or root_gap (first_counted children_gap 1 rows)))

-- The line of a gap.

abbrev pub member_fault_text : MemberFault → List ℕ
member_fault_text Inside = codes "inside"
member_fault_text Open = codes "open"
member_fault_text Owned = codes "owned"
member_fault_text Removable = codes "removable"
member_fault_text Missing = codes "missing"

abbrev pub row_fault_text : RowFault → List ℕ
row_fault_text Absent = codes "absent"
row_fault_text HiddenRow = codes "hidden"
row_fault_text InsideRow = codes "inside"

-- a node, by its server and its number
abbrev pub node_text : NodeRef → List ℕ
node_text at = decimal at.server ++ codes " " ++ decimal at.number

abbrev pub gap_text : Gap → List ℕ
gap_text (Table at) = codes "gap table " ++ node_text at
gap_text (Row number kind) = codes "gap row " ++ decimal number ++ codes " " ++ row_fault_text kind
gap_text (Root member kind) =
    codes "gap root member " ++ node_text member ++ codes " " ++ member_fault_text kind
gap_text (Child number child member kind) =
    codes "gap row " ++ decimal number ++ codes " child " ++ node_text child ++ codes " member "
    ++ node_text member ++ codes " " ++ member_fault_text kind

-- The mount table: a list of rows, each a key and the members that stand for it, as bind(1).
use Rattle.std.specs.Prelude.{ℕ, ◌<◌, Bool, true, false, List, [], ◌∷◌, Option, Some, None, Result, Ok}
use Rattle.std.specs.Prelude.{Err, is_some, length, unwrap_or, position, remove, All, if◌then◌else◌}
use Rattle.std.specs.List.{IsDistinct}
use Rattle.std.specs.Map.{lookup, remove_entry, keys_of}
use Rattle.std.specs.Option.{option_map_or}
use Rattle.indexmap.specs.IndexMap.{insert_entry}
use Rattle.p9_base.specs.declared.node_ref.NodeRef.{NodeRef}
use Rattle.p9_base.specs.NodeRef.{same_node}
use Rattle.p9_table.specs.declared.row.Member.{Member}
use Rattle.p9_table.specs.declared.row.Order.{Order}
use Rattle.p9_table.specs.declared.table.UnmountError.{UnmountError}
use Rattle.p9_table.specs.declared.table.UnmountError.TheVariants.{NotMounted, NotMember}
use Rattle.p9_table.specs.Row.{is_of, member, brought, joined}

-- a key, and the members that stand for it
abbrev pub MountRow : Type 0
MountRow = NodeRef × List Member

-- no row is empty, and no key has two rows
pub record IsTable (table : List MountRow) : Type 0 where
  pub not_empty : All (λ row. 0 < length row.1) table
  pub distinct : IsDistinct same_node (keys_of table)

-- the members of the key's row, if it has one
abbrev pub row_of : NodeRef → List MountRow → Option (List Member)
row_of key table = lookup (same_node key) table

-- the position of the key's row in the table, if it has one
abbrev pub row_position : NodeRef → List MountRow → Option ℕ
row_position key table = position (same_node key) (keys_of table)

-- what stands for a key: its row, or the key alone, which permits creation
abbrev pub members_of : NodeRef → List MountRow → List Member
members_of key table = unwrap_or (row_of key table) (member true key ∷ [])

-- the table with this row: one of its key is replaced in its place, a new one goes last
abbrev pub with_row : NodeRef → List Member → List MountRow → List MountRow
with_row key members table = insert_entry same_node table key members

-- the table without the key's row; those after it close up
abbrev pub without_row : NodeRef → List MountRow → List MountRow
without_row key table = remove_entry (same_node key) table

-- what a bind before or after finds: the row, or the old node alone, which permits no creation
abbrev pub standing : NodeRef → List MountRow → List Member
standing key table = unwrap_or (row_of key table) (member false key ∷ [])

-- the nodes bound in the place of the key, or before or after what is there
abbrev pub bound : NodeRef → List NodeRef → Order → Bool → List MountRow → List MountRow
bound key nodes order create table =
    with_row key (joined order (brought nodes create) (standing key table)) table

-- the table with these members for a key that has a row; where they are none the row goes
abbrev pub with_members : NodeRef → List Member → List MountRow → List MountRow
with_members key [] table = without_row key table
with_members key (m ∷ ms) table = with_row key (m ∷ ms) table

-- without the first of the row's members that is the node
abbrev pub without_member : (key node : NodeRef) → List MountRow → List Member
    → Result (List MountRow) UnmountError
without_member key node table members =
    option_map_or (λ i. Ok (with_members key (remove members i) table))
    (position (is_of node) members) (Err NotMember)

-- without the key's row, or without one node in it
abbrev pub unmounted : NodeRef → Option NodeRef → List MountRow
    → Result (List MountRow) UnmountError
unmounted key None table =
    if is_some (row_of key table) then Ok (without_row key table) else Err NotMounted
unmounted key (Some node) table =
    option_map_or (without_member key node table) (row_of key table) (Err NotMounted)

-- Places whose numbers were given: nodes that were made, also where they are gone again.
use Rattle.std.specs.Prelude.{◌&&◌, Bool, nat_lt, List}
use Rattle.std.specs.List.{list_all}
use Rattle.p9_base.specs.declared.node_ref.NodeRef.{NodeRef}
use Rattle.p9_tree.specs.Server.{Server}
use Rattle.p9_tree.specs.Forest.{next_of}
use Rattle.p9_table.specs.Table.{MountRow}

-- its number was given; where there is no such server none was
abbrev pub is_given : List Server → NodeRef → Bool
is_given forest at = nat_lt at.number (next_of at.server forest)

-- so were those of its key and of its members
abbrev pub is_row_given : List Server → MountRow → Bool
is_row_given forest row = is_given forest row.0 && list_all (λ m. is_given forest m.node) row.1

-- no key and no member of the mount table is a node that is still to be made
abbrev pub is_table_given : List Server → List MountRow → Bool
is_table_given forest table = list_all (is_row_given forest) table

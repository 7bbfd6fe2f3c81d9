-- Places: keys of the mount table, and the file that one stands for.
use Rattle.std.specs.Prelude.{List, [], ◌∷◌, Option}
use Rattle.p9_base.specs.declared.node_ref.NodeRef.{NodeRef}
use Rattle.p9_tree.specs.Node.{Node}
use Rattle.p9_tree.specs.Server.{Server}
use Rattle.p9_tree.specs.Forest.{node_of}
use Rattle.p9_table.specs.declared.row.Member.{Member}
use Rattle.p9_table.specs.Table.{MountRow, members_of}

-- the root of the name space: the root of server 0
abbrev pub root_place : NodeRef
root_place = record { server = 0; number = 0 }

-- the first member's node; the other case never comes, since each place has members
abbrev pub first_node : NodeRef → List Member → NodeRef
first_node place [] = place
first_node place (m ∷ ms) = m.node

-- the file of a place is its first member, alive or not
abbrev pub file_ref : NodeRef → List MountRow → NodeRef
file_ref place table = first_node place (members_of place table)

-- that file, if it exists
abbrev pub file_of : NodeRef → List MountRow → List Server → Option Node
file_of place table forest = node_of (file_ref place table) forest

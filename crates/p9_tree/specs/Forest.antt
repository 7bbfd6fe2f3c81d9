-- The servers by their numbers.
use Rattle.std.specs.Prelude.{◌≡◌, ℕ, ◌≤◌, List, [], Option, Some, filter, length, slice_get}
use Rattle.std.specs.Prelude.{slice_set, unwrap_or, Bool}
use Rattle.p9_base.specs.declared.node_ref.NodeRef.{NodeRef}
use Rattle.p9_base.specs.NodeRef.{servers_max}
use Rattle.p9_tree.specs.Node.{Node, is_in}
use Rattle.p9_tree.specs.Server.{Server, WellFormed, bytes_at, child_after, child_of, has_children}
use Rattle.p9_tree.specs.Server.{is_dir_at, node_at, with_changed}

-- a server that isn't there is one without nodes
abbrev pub no_server : Server
no_server = record { nodes = []; next = 0 }

-- the server of the number, or one without nodes
abbrev pub server_at : ℕ → List Server → Server
server_at server forest = unwrap_or (slice_get forest server) no_server

-- the node, by its server's number and its own
abbrev pub node_of : NodeRef → List Server → Option Node
node_of at forest = node_at at.number (server_at at.server forest).nodes

-- the node of the name in the directory
abbrev pub child_in : NodeRef → List ℕ → List Server → Option Node
child_in dir name forest = child_of dir.number name (server_at dir.server forest).nodes

-- the node of least number in the directory, above the floor if there is one
abbrev pub child_in_after : NodeRef → Option ℕ → List Server → Option Node
child_in_after dir floor forest = child_after dir.number floor (server_at dir.server forest).nodes

-- the number that the server's next new node gets; 0 where there is no such server
abbrev pub next_of : ℕ → List Server → ℕ
next_of server forest = (server_at server forest).next

-- whether it is a directory that exists
abbrev pub is_dir_of : NodeRef → List Server → Bool
is_dir_of at forest = is_dir_at at.number (server_at at.server forest).nodes

-- the nodes of a directory, by rising number
abbrev pub children_of : NodeRef → List Server → List Node
children_of dir forest = filter (is_in dir.number) (server_at dir.server forest).nodes

-- whether a node is in the directory
abbrev pub has_children_of : NodeRef → List Server → Bool
has_children_of dir forest = has_children dir.number (server_at dir.server forest).nodes

-- the file's bytes; none where there is no such file
abbrev pub bytes_of : NodeRef → List Server → List ℕ
bytes_of at forest = bytes_at at.number (server_at at.server forest).nodes

-- one server is changed, if it is there
abbrev pub tree_changed_at : ℕ → (Server → Server) → List Server → List Server
tree_changed_at server change forest = slice_set forest server (change (server_at server forest))

-- one node is changed, if it is there
abbrev pub forest_changed_at : NodeRef → (Node → Node) → List Server → List Server
forest_changed_at at f forest = tree_changed_at at.server (with_changed at.number f) forest

-- there are not too many servers, and each is well-formed
pub record IsForest (forest : List Server) : Type 0 where
  pub few : length forest ≤ servers_max
  pub servers : (k : ℕ) (s : Server) → slice_get forest k ≡ Some s → WellFormed s

-- A server: its nodes by rising number, and the number that its next new node gets.
use Rattle.std.specs.Prelude.{◌≡◌, ℕ, ◌+◌, ◌^◌, ◌<◌, ◌≤◌, ◌&&◌, Bool, true, false, List, [], ◌∷◌}
use Rattle.std.specs.Prelude.{◌++◌, Option, Some, None, IsTrue, is_some, codes, length, find, All}
use Rattle.std.specs.Prelude.{AllPairs, if◌then◌else◌}
use Rattle.std.specs.Option.{option_map_or}
use Rattle.p9_base.specs.declared.mode.Kind.TheVariants.{Directory}
use Rattle.p9_base.specs.declared.mode.Rights.{Rights}
use Rattle.p9_base.specs.declared.mode.Mode.{Mode}
use Rattle.p9_base.specs.Name.{is_name}
use Rattle.p9_tree.specs.Node.{Node, IsTellable, root_name, has_number, is_in, is_child, is_above}
use Rattle.p9_tree.specs.Node.{is_dir}
use Rattle.p9_tree.specs.Bytes.{file_max}

-- the greatest next number
abbrev pub next_max : ℕ
next_max = 2 ^ 48

-- one server
pub record Server : Type 0 where
  pub nodes : List Node
  pub next : ℕ

-- Look-ups.

-- the node of the number
abbrev pub node_at : ℕ → List Node → Option Node
node_at number nodes = find (has_number number) nodes

-- the node of the name in the directory
abbrev pub child_of : ℕ → List ℕ → List Node → Option Node
child_of dir name nodes = find (is_child dir name) nodes

-- the node of least number in the directory, above the floor if there is one
abbrev pub child_after : ℕ → Option ℕ → List Node → Option Node
child_after dir floor nodes = find (λ n. is_in dir n && is_above floor n) nodes

-- whether there is a node of the number
abbrev pub exists_at : ℕ → List Node → Bool
exists_at number nodes = is_some (node_at number nodes)

-- whether it is a directory that exists
abbrev pub is_dir_at : ℕ → List Node → Bool
is_dir_at number nodes = option_map_or is_dir (node_at number nodes) false

-- the file's bytes; none where there is no such file
abbrev pub bytes_at : ℕ → List Node → List ℕ
bytes_at number nodes = option_map_or (λ n. n.bytes) (node_at number nodes) []

-- whether a node is in the directory
abbrev pub has_children : ℕ → List Node → Bool
has_children dir nodes = is_some (child_after dir None nodes)

-- Well-formed servers.

-- what holds of a node by itself: a file is not too long, a directory has no bytes, the root alone
-- is named `/`, and a stat can tell it. That its mode has no bit without a meaning is in modes'
-- type
pub record IsSound (n : Node) : Type 0 where
  pub small : length n.bytes ≤ file_max
  pub empty_dir : IsTrue (is_dir n) → n.bytes ≡ []
  pub valid_name : (p : ℕ) → n.parent ≡ Some p → IsTrue (is_name n.name)
  pub root_name : n.parent ≡ None → n.name ≡ root_name
  pub tellable : IsTellable n

-- numbers rise, and lie below the next; node 0 is a directory, and the only node without a parent;
-- each other is in a directory of smaller number, where no other has its name
pub record WellFormed (s : Server) : Type 0 where
  pub few : s.next ≤ next_max
  pub rising : AllPairs (λ m n. m.number < n.number) s.nodes
  pub below : All (λ n. n.number < s.next) s.nodes
  pub sound : (k : ℕ) (n : Node) → node_at k s.nodes ≡ Some n → IsSound n
  pub root : IsTrue (is_dir_at 0 s.nodes)
  pub only_root : (k : ℕ) (n : Node) → node_at k s.nodes ≡ Some n → n.parent ≡ None → k ≡ 0
  pub parent_below : (k p : ℕ) (n : Node) → node_at k s.nodes ≡ Some n → n.parent ≡ Some p → p < k
  pub parent_dir : (k p : ℕ) (n : Node) → node_at k s.nodes ≡ Some n → n.parent ≡ Some p
      → IsTrue (is_dir_at p s.nodes)
  pub siblings : (j k p : ℕ) (m n : Node)
      → node_at j s.nodes ≡ Some m → node_at k s.nodes ≡ Some n
      → m.parent ≡ Some p → n.parent ≡ Some p → m.name ≡ n.name → j ≡ k

-- the node may join the server, in the directory
pub record CanAdd (s : Server) (dir : ℕ) (n : Node) : Type 0 where
  pub number_left : s.next < next_max
  pub into : IsTrue (is_dir_at dir s.nodes)
  pub free : child_of dir n.name s.nodes ≡ None
  pub small : length n.bytes ≤ file_max
  pub empty_dir : IsTrue (is_dir n) → n.bytes ≡ []

-- A new server.

-- rwx
abbrev pub all_rights : Rights
all_rights = record { read = true; write = true; execute = true }

-- r-x
abbrev pub read_and_search : Rights
read_and_search = record { read = true; write = false; execute = true }

-- rwxr-xr-x
abbrev pub root_mode : Mode
root_mode = record {
  kind = Directory;
  permissions = record { owner = all_rights; group = read_and_search; others = read_and_search };
}

-- its root belongs to sys
abbrev pub root_node : Node
root_node = record {
  number = 0;
  parent = None;
  name = root_name;
  mode = root_mode;
  uid = codes "sys";
  gid = codes "sys";
  muid = codes "sys";
  version = 0;
  atime = 0;
  mtime = 0;
  bytes = [];
}

-- a server of a root alone
abbrev pub rooted : Server
rooted = record { nodes = root_node ∷ []; next = 1 }

-- Changes.

-- these nodes in the place of its own
abbrev pub with_nodes : Server → List Node → Server
with_nodes s nodes = record { nodes = nodes; next = s.next }

-- the node of the number is changed
abbrev pub changed_at : ℕ → (Node → Node) → List Node → List Node
changed_at number f [] = []
changed_at number f (n ∷ ns) = if has_number number n then f n ∷ ns else n ∷ changed_at number f ns

-- the node of the number is taken out
abbrev pub dropped_at : ℕ → List Node → List Node
dropped_at number [] = []
dropped_at number (n ∷ ns) = if has_number number n then ns else n ∷ dropped_at number ns

-- the server with that node changed
abbrev pub with_changed : ℕ → (Node → Node) → Server → Server
with_changed number f s = with_nodes s (changed_at number f s.nodes)

-- the server without that node
abbrev pub with_dropped : ℕ → Server → Server
with_dropped number s = with_nodes s (dropped_at number s.nodes)

-- the node, whose number is the next, joins
abbrev pub added : Server → Node → Server
added s n = record { nodes = s.nodes ++ n ∷ []; next = s.next + 1 }

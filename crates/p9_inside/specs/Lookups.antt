-- Look-ups outside do not see what is inside.
use Rattle.std.specs.Prelude.{◌≡◌, ℕ, List, Option, IsFalse, filter}
use Rattle.p9_base.specs.declared.node_ref.NodeRef.{NodeRef}
use Rattle.p9_tree.specs.Node.{Node, is_in}
use Rattle.p9_tree.specs.Server.{Server, node_at, is_dir_at, bytes_at, child_of, child_after}
use Rattle.p9_tree.specs.Server.{has_children}
use Rattle.p9_tree.specs.Forest.{server_at, node_of, child_in, child_in_after, next_of, is_dir_of}
use Rattle.p9_tree.specs.Forest.{bytes_of}
use Rattle.p9_tree.specs.Inside.{is_barred_at, is_inside_at, outer_server, is_barred, is_inside}
use Rattle.p9_tree.specs.Inside.{outer}

-- Of a number whose node isn't inside.

abbrev pub ServerKeepsNode : Type 0
ServerKeepsNode = (hidden : List ℕ) (s : Server) (k : ℕ)
    → IsFalse (is_inside_at k hidden s.nodes)
    → node_at k (outer_server hidden s).nodes ≡ node_at k s.nodes

abbrev pub KeepsNode : Type 0
KeepsNode = (hidden : List NodeRef) (forest : List Server) (r : NodeRef)
    → IsFalse (is_inside r hidden forest)
    → node_of r (outer hidden forest) ≡ node_of r forest

abbrev pub ServerKeepsDirTest : Type 0
ServerKeepsDirTest = (hidden : List ℕ) (s : Server) (k : ℕ)
    → IsFalse (is_inside_at k hidden s.nodes)
    → is_dir_at k (outer_server hidden s).nodes ≡ is_dir_at k s.nodes

abbrev pub KeepsDirTest : Type 0
KeepsDirTest = (hidden : List NodeRef) (forest : List Server) (r : NodeRef)
    → IsFalse (is_inside r hidden forest)
    → is_dir_of r (outer hidden forest) ≡ is_dir_of r forest

abbrev pub ServerKeepsBytes : Type 0
ServerKeepsBytes = (hidden : List ℕ) (s : Server) (k : ℕ)
    → IsFalse (is_inside_at k hidden s.nodes)
    → bytes_at k (outer_server hidden s).nodes ≡ bytes_at k s.nodes

abbrev pub KeepsBytes : Type 0
KeepsBytes = (hidden : List NodeRef) (forest : List Server) (r : NodeRef)
    → IsFalse (is_inside r hidden forest)
    → bytes_of r (outer hidden forest) ≡ bytes_of r forest

-- Of a directory that is neither hidden nor inside.

abbrev pub ServerKeepsChild : Type 0
ServerKeepsChild = (hidden : List ℕ) (s : Server) (dir : ℕ) (name : List ℕ)
    → IsFalse (is_barred_at dir hidden s.nodes)
    → child_of dir name (outer_server hidden s).nodes ≡ child_of dir name s.nodes

abbrev pub KeepsChild : Type 0
KeepsChild = (hidden : List NodeRef) (forest : List Server) (dir : NodeRef) (name : List ℕ)
    → IsFalse (is_barred dir hidden forest)
    → child_in dir name (outer hidden forest) ≡ child_in dir name forest

abbrev pub ServerKeepsChildAfter : Type 0
ServerKeepsChildAfter = (hidden : List ℕ) (s : Server) (dir : ℕ) (floor : Option ℕ)
    → IsFalse (is_barred_at dir hidden s.nodes)
    → child_after dir floor (outer_server hidden s).nodes ≡ child_after dir floor s.nodes

abbrev pub KeepsChildAfter : Type 0
KeepsChildAfter = (hidden : List NodeRef) (forest : List Server) (dir : NodeRef) (floor : Option ℕ)
    → IsFalse (is_barred dir hidden forest)
    → child_in_after dir floor (outer hidden forest) ≡ child_in_after dir floor forest

-- all children, and whether there are any
pub record SameChildren (dir : ℕ) (nodes others : List Node) : Type 0 where
  pub all : filter (is_in dir) others ≡ filter (is_in dir) nodes
  pub some : has_children dir others ≡ has_children dir nodes

abbrev pub ServerKeepsChildren : Type 0
ServerKeepsChildren = (hidden : List ℕ) (s : Server) (dir : ℕ)
    → IsFalse (is_barred_at dir hidden s.nodes)
    → SameChildren dir s.nodes (outer_server hidden s).nodes

abbrev pub KeepsChildren : Type 0
KeepsChildren = (hidden : List NodeRef) (forest : List Server) (dir : NodeRef)
    → IsFalse (is_barred dir hidden forest)
    → SameChildren dir.number
    (server_at dir.server forest).nodes
    (server_at dir.server (outer hidden forest)).nodes

-- Of a server.

abbrev pub KeepsNext : Type 0
KeepsNext = (hidden : List NodeRef) (forest : List Server) (server : ℕ)
    → next_of server (outer hidden forest) ≡ next_of server forest

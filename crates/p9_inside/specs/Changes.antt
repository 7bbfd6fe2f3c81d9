-- Changes outside do not touch what is inside.
use Rattle.std.specs.Prelude.{◌≡◌, ◌<◌, ℕ, List, Some, IsTrue, IsFalse}
use Rattle.p9_base.specs.declared.mode.Permissions.{Permissions}
use Rattle.p9_base.specs.declared.node_ref.NodeRef.{NodeRef}
use Rattle.p9_base.specs.NodeRef.{beside}
use Rattle.p9_tree.specs.Bytes.{cut_to, overwritten}
use Rattle.p9_tree.specs.Change.{changed}
use Rattle.p9_tree.specs.declared.change.Change.{Change}
use Rattle.p9_tree.specs.declared.new.New.{New}
use Rattle.p9_tree.specs.New.{added_new}
use Rattle.p9_tree.specs.Node.{Node, marked, touched, with_owner, with_bytes}
use Rattle.p9_tree.specs.Server.{Server, WellFormed, added, with_changed, with_dropped}
use Rattle.p9_tree.specs.Forest.{IsForest, forest_changed_at, is_dir_of, next_of, tree_changed_at}
use Rattle.p9_tree.specs.Inside.{inner_nodes, is_among, is_barred_at, is_inside_at}
use Rattle.p9_tree.specs.Inside.{outer_server, is_hidden, is_barred, is_inside, inner, outer}

-- the change of a node leaves it where it is
pub record KeepsParent (f : Node → Node) : Type 0 where
  pub number : (n : Node) → (f n).number ≡ n.number
  pub parent : (n : Node) → (f n).parent ≡ n.parent

-- The change does the same with the insides or without them, and doesn't change them. No number
-- becomes hidden or inside, or ceases to be so.

pub record ServerSpares (hidden : List ℕ) (change : Server → Server) (s : Server) : Type 0 where
  pub commutes : outer_server hidden (change s) ≡ change (outer_server hidden s)
  pub insides : inner_nodes hidden (change s).nodes ≡ inner_nodes hidden s.nodes
  pub barred : (k : ℕ) → is_barred_at k hidden (change s).nodes ≡ is_barred_at k hidden s.nodes
  pub inside : (k : ℕ) → is_inside_at k hidden (change s).nodes ≡ is_inside_at k hidden s.nodes

pub record Spares (hidden : List NodeRef) (change : List Server → List Server)
    (forest : List Server) : Type 0 where
  pub commutes : outer hidden (change forest) ≡ change (outer hidden forest)
  pub insides : inner hidden (change forest) ≡ inner hidden forest
  pub barred : (r : NodeRef) → is_barred r hidden (change forest) ≡ is_barred r hidden forest
  pub inside : (r : NodeRef) → is_inside r hidden (change forest) ≡ is_inside r hidden forest

-- A node that isn't inside is changed where it is.

abbrev pub ServerChangeSpares : Type 0
ServerChangeSpares = (hidden : List ℕ) (s : Server) (k : ℕ) (f : Node → Node) → KeepsParent f
    → IsFalse (is_inside_at k hidden s.nodes)
    → ServerSpares hidden (with_changed k f) s

abbrev pub ChangeSpares : Type 0
ChangeSpares = (hidden : List NodeRef) (forest : List Server) (r : NodeRef) (f : Node → Node)
    → KeepsParent f
    → IsFalse (is_inside r hidden forest)
    → Spares hidden (forest_changed_at r f) forest

-- The changes by their names.

abbrev pub MarkSpares : Type 0
MarkSpares = (hidden : List NodeRef) (forest : List Server) (r : NodeRef) (user : List ℕ) (clock : ℕ)
    → IsFalse (is_inside r hidden forest)
    → Spares hidden (forest_changed_at r (marked user clock)) forest

abbrev pub TouchSpares : Type 0
TouchSpares = (hidden : List NodeRef) (forest : List Server) (r : NodeRef) (clock : ℕ)
    → IsFalse (is_inside r hidden forest)
    → Spares hidden (forest_changed_at r (touched clock)) forest

abbrev pub OwnerSpares : Type 0
OwnerSpares = (hidden : List NodeRef) (forest : List Server) (r : NodeRef)
    (permissions : Permissions) (uid gid : List ℕ)
    → IsFalse (is_inside r hidden forest)
    → Spares hidden (forest_changed_at r (with_owner permissions uid gid)) forest

abbrev pub WriteSpares : Type 0
WriteSpares = (hidden : List NodeRef) (forest : List Server) (r : NodeRef)
    (offset : ℕ) (bytes : List ℕ)
    → IsFalse (is_inside r hidden forest)
    → Spares hidden (forest_changed_at r (with_bytes (overwritten offset bytes))) forest

abbrev pub CutSpares : Type 0
CutSpares = (hidden : List NodeRef) (forest : List Server) (r : NodeRef) (size : ℕ)
    → IsFalse (is_inside r hidden forest)
    → Spares hidden (forest_changed_at r (with_bytes (cut_to size))) forest

abbrev pub WstatSpares : Type 0
WstatSpares = (hidden : List NodeRef) (forest : List Server) (r : NodeRef) (change : Change)
    → IsFalse (is_inside r hidden forest)
    → Spares hidden (forest_changed_at r (changed change)) forest

-- A node that isn't inside is taken out. It may be a hidden directory.

abbrev pub ServerDropSpares : Type 0
ServerDropSpares = (hidden : List ℕ) (s : Server) (k : ℕ) → WellFormed s
    → IsFalse (is_inside_at k hidden s.nodes)
    → ServerSpares hidden (with_dropped k) s

abbrev pub DropSpares : Type 0
DropSpares = (hidden : List NodeRef) (forest : List Server) (r : NodeRef) → IsForest forest
    → IsFalse (is_inside r hidden forest)
    → Spares hidden (tree_changed_at r.server (with_dropped r.number)) forest

-- A node joins a directory that is neither hidden nor inside. The node is made with its number.

-- the server with the node that is made of its next number
abbrev pub with_new : (ℕ → Node) → Server → Server
with_new make s = added s (make s.next)

abbrev pub ServerAddSpares : Type 0
ServerAddSpares = (hidden : List ℕ) (s : Server) (dir : ℕ) (make : ℕ → Node)
    → ((k : ℕ) → (make k).parent ≡ Some dir)
    → IsFalse (is_barred_at dir hidden s.nodes)
    → ServerSpares hidden (with_new make) s

abbrev pub AddSpares : Type 0
AddSpares = (hidden : List NodeRef) (forest : List Server) (dir : NodeRef) (make : ℕ → Node)
    → ((k : ℕ) → (make k).parent ≡ Some dir.number)
    → IsFalse (is_barred dir hidden forest)
    → Spares hidden (tree_changed_at dir.server (with_new make)) forest

-- the change that `Forest::add` makes
abbrev pub NewSpares : Type 0
NewSpares = (hidden : List NodeRef) (forest : List Server) (dir : NodeRef) (new : New)
    → IsFalse (is_barred dir hidden forest)
    → Spares hidden (tree_changed_at dir.server (added_new dir.number new)) forest

-- Two changes, one after the other.

abbrev pub InTurnSpares : Type 0
InTurnSpares = (hidden : List NodeRef) (forest : List Server)
    (first second : List Server → List Server)
    → Spares hidden first forest
    → Spares hidden second (first forest)
    → Spares hidden (λ g. second (first g)) forest

-- A new node is inside exactly where its parent is hidden or inside.

abbrev pub ServerParentDecides : Type 0
ServerParentDecides = (hidden : List ℕ) (s : Server) (dir : ℕ) (n : Node) → WellFormed s
    → n.number ≡ s.next
    → n.parent ≡ Some dir
    → is_inside_at s.next hidden (added s n).nodes ≡ is_barred_at dir hidden s.nodes

abbrev pub ParentDecides : Type 0
ParentDecides = (hidden : List NodeRef) (forest : List Server) (dir : NodeRef) (make : ℕ → Node)
    → IsForest forest
    → IsTrue (is_dir_of dir forest)
    → ((k : ℕ) → (make k).number ≡ k)
    → ((k : ℕ) → (make k).parent ≡ Some dir.number)
    → is_inside (beside dir (next_of dir.server forest)) hidden
    (tree_changed_at dir.server (with_new make) forest)
    ≡ is_barred dir hidden forest

-- Where all hidden numbers were given out, the next one is not barred.

abbrev pub ServerNextIsFree : Type 0
ServerNextIsFree = (hidden : List ℕ) (s : Server) → WellFormed s
    → ((k : ℕ) → IsTrue (is_among hidden k) → k < s.next)
    → IsFalse (is_barred_at s.next hidden s.nodes)

abbrev pub NextIsFree : Type 0
NextIsFree = (hidden : List NodeRef) (forest : List Server) (server : ℕ) → IsForest forest
    → ((r : NodeRef) → IsTrue (is_hidden r hidden) → r.number < next_of r.server forest)
    → IsFalse (is_barred (record { server = server; number = next_of server forest }) hidden forest)

-- The changes that requests make in the forest, each under a name.
use Rattle.std.specs.Prelude.{ℕ, List, [], ◌∷◌}
use Rattle.p9_base.specs.declared.node_ref.NodeRef.{NodeRef}
use Rattle.p9_tree.specs.Bytes.{cut_to, overwritten}
use Rattle.p9_tree.specs.Change.{changed}
use Rattle.p9_tree.specs.declared.change.Change.{Change}
use Rattle.p9_tree.specs.Node.{Node, marked, touched, with_bytes}
use Rattle.p9_tree.specs.Server.{Server, added, with_dropped}
use Rattle.p9_tree.specs.Forest.{forest_changed_at, tree_changed_at}

-- what is changed in one node
pub data Edit : Type 0 where
  Mark : (user : List ℕ) (clock : ℕ) → Edit
  Touch : (clock : ℕ) → Edit
  Overwrite : (offset : ℕ) (bytes : List ℕ) → Edit
  Cut : (size : ℕ) → Edit
  Rewrite : (change : Change) → Edit

-- the node after an edit
unfoldable pub edited : Edit → Node → Node
edited (Mark user clock) = marked user clock
edited (Touch clock) = touched clock
edited (Overwrite offset bytes) = with_bytes (overwritten offset bytes)
edited (Cut size) = with_bytes (cut_to size)
edited (Rewrite change) = changed change

-- what is changed in the forest: a node, or that there is one
pub data ForestChange : Type 0 where
  EditNode : (at : NodeRef) (edit : Edit) → ForestChange
  AddNode : (server : ℕ) (node : Node) → ForestChange
  DropNode : (at : NodeRef) → ForestChange

-- the forest after a change
unfoldable pub applied : ForestChange → List Server → List Server
applied (EditNode at edit) forest = forest_changed_at at (edited edit) forest
applied (AddNode server node) forest = tree_changed_at server (λ s. added s node) forest
applied (DropNode at) forest = tree_changed_at at.server (with_dropped at.number) forest

-- one change after another
abbrev pub all_applied : List ForestChange → List Server → List Server
all_applied [] forest = forest
all_applied (change ∷ changes) forest = all_applied changes (applied change forest)

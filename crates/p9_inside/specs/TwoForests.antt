-- Two forests that are the same without what is inside hidden directories.
use Rattle.std.specs.Prelude.{◌≡◌, ◌↔◌, ℕ, List, Some, IsFalse, is_some}
use Rattle.p9_base.specs.declared.node_ref.NodeRef.{NodeRef}
use Rattle.p9_tree.specs.Node.{Node}
use Rattle.p9_tree.specs.Server.{Server}
use Rattle.p9_tree.specs.Forest.{IsForest, next_of, node_of}
use Rattle.p9_tree.specs.Inside.{is_inside, outer}

-- the number is that of a node in both, or in neither
abbrev pub IsInBoth : List Server → List Server → NodeRef → Type 0
IsInBoth f g at = is_some (node_of at g) ≡ is_some (node_of at f)

-- A node that isn't inside in the first is the same in the second, and not inside there.

abbrev pub SeenInBoth : Type 0
SeenInBoth = (hidden : List NodeRef) (f g : List Server) → IsForest g
    → outer hidden g ≡ outer hidden f → (r : NodeRef) (n : Node) → node_of r f ≡ Some n
    → IsFalse (is_inside r hidden f)
    → (node_of r g ≡ Some n) × IsFalse (is_inside r hidden g)

-- A number is that of a node in both or in neither exactly where it is inside in both or in
-- neither.

abbrev pub InsideInBoth : Type 0
InsideInBoth = (hidden : List NodeRef) (f g : List Server) → IsForest f → IsForest g
    → outer hidden g ≡ outer hidden f → (r : NodeRef)
    → IsInBoth f g r ↔ (is_inside r hidden g ≡ is_inside r hidden f)

-- The next numbers are the same.

abbrev pub NextInBoth : Type 0
NextInBoth = (hidden : List NodeRef) (f g : List Server) → outer hidden g ≡ outer hidden f
    → (server : ℕ) → next_of server g ≡ next_of server f

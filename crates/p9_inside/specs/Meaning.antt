-- What inside means.
use Rattle.std.specs.Prelude.{◌≡◌, ◌≢◌, ◌||◌, ◌↔◌, ◌<◌, ℕ, Bool, false, List, [], None, IsTrue}
use Rattle.std.specs.Prelude.{if◌then◌else◌, option_and_then, slice_get, unwrap_or}
use Rattle.std.specs.Option.{option_map_or}
use Rattle.p9_base.specs.declared.node_ref.NodeRef.{NodeRef}
use Rattle.p9_base.specs.NodeRef.{beside}
use Rattle.p9_tree.specs.Node.{Node}
use Rattle.p9_tree.specs.Server.{Server, WellFormed, node_at}
use Rattle.p9_tree.specs.Forest.{IsForest, node_of, server_at}
use Rattle.p9_tree.specs.Inside.{IsInside, IsInsideAny, hidden_on, is_among}
use Rattle.p9_tree.specs.Inside.{is_barred_at, is_inside_at, inner_nodes, outer_nodes}
use Rattle.p9_tree.specs.Inside.{outer_server, is_hidden, is_barred, is_inside, inner, outer}

-- By the pass a node is inside exactly where a hidden directory is in its chain of parents.

abbrev pub ServerPassIsChain : Type 0
ServerPassIsChain = (hidden : List ℕ) (s : Server) (k : ℕ) → WellFormed s
    → IsTrue (is_inside_at k hidden s.nodes) ↔ IsInsideAny hidden s.nodes k

abbrev pub PassIsChain : Type 0
PassIsChain = (hidden : List NodeRef) (forest : List Server) (r : NodeRef) → IsForest forest
    → IsTrue (is_inside r hidden forest)
    ↔ IsInsideAny (hidden_on r.server hidden) (server_at r.server forest).nodes r.number

-- What is in a chain of parents has a smaller number, so nothing is inside itself.

abbrev pub NothingInsideItself : Type 0
NothingInsideItself = (s : Server) (h k : ℕ) → WellFormed s → IsInside s.nodes h k → h < k

-- A node is inside exactly where its parent is hidden or inside. A node without a parent is not,
-- nor is a number without a node.

-- it is hidden, or its node is inside
abbrev pub is_hidden_or_inside : List NodeRef → List Server → NodeRef → Bool
is_hidden_or_inside hidden forest r = is_hidden r hidden || is_inside r hidden forest

abbrev pub InsideByParent : Type 0
InsideByParent = (hidden : List NodeRef) (forest : List Server) (r : NodeRef) → IsForest forest
    → is_inside r hidden forest
    ≡ option_map_or (λ parent. is_hidden_or_inside hidden forest (beside r parent))
    (option_and_then (λ n. n.parent) (node_of r forest)) false

-- A number is barred exactly where it is hidden or its node is inside.

abbrev pub ServerBarredIsHiddenOrInside : Type 0
ServerBarredIsHiddenOrInside = (hidden : List ℕ) (s : Server) (k : ℕ) → WellFormed s
    → is_barred_at k hidden s.nodes ≡ (is_among hidden k || is_inside_at k hidden s.nodes)

abbrev pub BarredIsHiddenOrInside : Type 0
BarredIsHiddenOrInside = (hidden : List NodeRef) (forest : List Server) (r : NodeRef)
    → IsForest forest
    → is_barred r hidden forest ≡ is_hidden_or_inside hidden forest r

-- The insides are the nodes inside, and the others are left.

-- the node of the number is found among the insides if it is inside, else among the others
pub record IsSplit (k : ℕ) (hides : Bool) (all inside outside : List Node) : Type 0 where
  pub insides : node_at k inside ≡ (if hides then node_at k all else None)
  pub others : node_at k outside ≡ (if hides then None else node_at k all)

abbrev pub ServerInsidesAreSplit : Type 0
ServerInsidesAreSplit = (hidden : List ℕ) (s : Server) (k : ℕ) → WellFormed s
    → IsSplit k (is_inside_at k hidden s.nodes) s.nodes
    (inner_nodes hidden s.nodes)
    (outer_server hidden s).nodes

abbrev pub InsidesAreSplit : Type 0
InsidesAreSplit = (hidden : List NodeRef) (forest : List Server) (r : NodeRef) → IsForest forest
    → IsSplit r.number (is_inside r hidden forest) (server_at r.server forest).nodes
    (unwrap_or (slice_get (inner hidden forest) r.server) [])
    (server_at r.server (outer hidden forest)).nodes

-- Hidden lists that agree at each node have the same insides.

pub record SameAtServer (hidden other : List ℕ) (s : Server) : Type 0 where
  pub insides : inner_nodes other s.nodes ≡ inner_nodes hidden s.nodes
  pub others : outer_nodes other s.nodes ≡ outer_nodes hidden s.nodes

pub record SameInsides (hidden other : List NodeRef) (forest : List Server) : Type 0 where
  pub insides : inner other forest ≡ inner hidden forest
  pub others : outer other forest ≡ outer hidden forest

abbrev pub ServerOnlyNodesHide : Type 0
ServerOnlyNodesHide = (hidden other : List ℕ) (s : Server) → WellFormed s
    → ((k : ℕ) → node_at k s.nodes ≢ None → is_among other k ≡ is_among hidden k)
    → SameAtServer hidden other s

abbrev pub OnlyNodesHide : Type 0
OnlyNodesHide = (hidden other : List NodeRef) (forest : List Server) → IsForest forest
    → ((r : NodeRef) → node_of r forest ≢ None → is_hidden r other ≡ is_hidden r hidden)
    → SameInsides hidden other forest

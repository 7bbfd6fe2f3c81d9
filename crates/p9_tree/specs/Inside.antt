-- What is inside hidden directories, and servers without it.
--
-- A node is inside a directory that is in its chain of parents; so a directory is not inside
-- itself. Hidden directories are named by their numbers. A number may have lost its node: since it
-- is never given again, it then hides nothing.
use Rattle.std.specs.Prelude.{◌≡◌, ℕ, ◌==◌, Bool, false, not, List, [], ◌∷◌, Some, IsTrue, filter}
use Rattle.std.specs.Prelude.{map, if◌then◌else◌}
use Rattle.std.specs.Option.{option_map_or}
use Rattle.std.specs.List.{enumerate_from, list_any}
use Rattle.p9_base.specs.declared.node_ref.NodeRef.{NodeRef}
use Rattle.p9_tree.specs.Node.{Node}
use Rattle.p9_tree.specs.Server.{Server, node_at, with_nodes}
use Rattle.p9_tree.specs.Forest.{server_at}

-- the number is one of these
abbrev pub is_among : List ℕ → ℕ → Bool
is_among numbers number = list_any (λ k. k == number) numbers

-- Inside, as a reader checks it.

-- the directory h is in the chain of parents of the node
pub data IsInside (nodes : List Node) (h : ℕ) : ℕ → Type 0 where
  Child : (k : ℕ) (n : Node) → node_at k nodes ≡ Some n → n.parent ≡ Some h → IsInside nodes h k
  Deeper : (k p : ℕ) (n : Node) → node_at k nodes ≡ Some n → n.parent ≡ Some p
      → IsInside nodes h p → IsInside nodes h k

-- some hidden directory is in its chain of parents
abbrev pub IsInsideAny : List ℕ → List Node → ℕ → Type 0
IsInsideAny hidden nodes k = (h : ℕ) × IsTrue (is_among hidden h) × IsInside nodes h k

-- Inside, by one pass over a server's nodes. They are by rising number, and parents have smaller
-- numbers than their children.

-- its parent is one of these
abbrev pub is_inner : List ℕ → Node → Bool
is_inner numbers n = option_map_or (λ parent. is_among numbers parent) n.parent false

-- the numbers, and that of the node where its parent is one of them
abbrev pub grown_by : List ℕ → Node → List ℕ
grown_by barred n = if is_inner barred n then n.number ∷ barred else barred

-- the numbers that are hidden, and those of nodes inside a hidden directory; those that are known
-- grow node by node
abbrev pub barred_from : (barred : List ℕ) → List Node → List ℕ
barred_from barred [] = barred
barred_from barred (n ∷ ns) = barred_from (grown_by barred n) ns

-- whether the number is barred: hidden, or that of a node inside a hidden directory
abbrev pub is_barred_at : ℕ → List ℕ → List Node → Bool
is_barred_at number hidden nodes = is_among (barred_from hidden nodes) number

-- whether the node exists and is inside a hidden directory
abbrev pub is_inside_at : ℕ → List ℕ → List Node → Bool
is_inside_at number hidden nodes =
    option_map_or (is_inner (barred_from hidden nodes)) (node_at number nodes) false

-- the nodes inside a hidden directory, with all their fields
abbrev pub inner_nodes : List ℕ → List Node → List Node
inner_nodes hidden nodes = filter (is_inner (barred_from hidden nodes)) nodes

-- all others
abbrev pub outer_nodes : List ℕ → List Node → List Node
outer_nodes hidden nodes = filter (λ n. not (is_inner (barred_from hidden nodes) n)) nodes

-- the server without what is inside its hidden directories
abbrev pub outer_server : List ℕ → Server → Server
outer_server hidden s = with_nodes s (outer_nodes hidden s.nodes)

-- Forests.

-- the numbers of the server's hidden directories
abbrev pub hidden_on : ℕ → List NodeRef → List ℕ
hidden_on server hidden = map (λ r. r.number) (filter (λ r. r.server == server) hidden)

-- whether it is a hidden directory
unfoldable pub is_hidden : NodeRef → List NodeRef → Bool
is_hidden at hidden = is_among (hidden_on at.server hidden) at.number

-- hidden, or inside a hidden directory
unfoldable pub is_barred : NodeRef → List NodeRef → List Server → Bool
is_barred at hidden forest =
    is_barred_at at.number (hidden_on at.server hidden) (server_at at.server forest).nodes

-- whether the node exists and is inside a hidden directory
unfoldable pub is_inside : NodeRef → List NodeRef → List Server → Bool
is_inside at hidden forest =
    is_inside_at at.number (hidden_on at.server hidden) (server_at at.server forest).nodes

-- what the function makes of each server and its number
abbrev pub each_server : {X : Type 0} → (ℕ → Server → X) → List Server → List X
each_server f forest = map (λ s. f s.0 s.1) (enumerate_from 0 forest)

-- the forest without what is inside hidden directories
unfoldable pub outer : List NodeRef → List Server → List Server
outer hidden forest = each_server (λ server s. outer_server (hidden_on server hidden) s) forest

-- what is inside hidden directories, server by server
unfoldable pub inner : List NodeRef → List Server → List (List Node)
inner hidden forest = each_server (λ server s. inner_nodes (hidden_on server hidden) s.nodes) forest

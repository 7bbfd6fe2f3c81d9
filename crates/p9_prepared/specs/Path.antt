-- The path by which a node is printed: its server, and the names from the root on.
use Rattle.std.specs.Prelude.{ℕ, zero, suc, List, [], ◌∷◌, ◌++◌, Option, codes, slice_get}
use Rattle.std.specs.Prelude.{unwrap_or}
use Rattle.std.specs.List.{flat_map}
use Rattle.std.specs.Option.{option_and_then, option_map, option_map_or}
use Rattle.p9_base.specs.declared.node_ref.NodeRef.{NodeRef}
use Rattle.p9_tree.specs.Node.{Node}
use Rattle.p9_tree.specs.Server.{node_at}
use Rattle.p9_tree.specs.Forest.{server_at}
use Rattle.p9_world.specs.World.{World}

-- in which directory the node of the number is, and under which name: the root is in none, nor is a
-- number without a node
abbrev pub entry_at : ℕ → List Node → Option (ℕ × List ℕ)
entry_at number nodes =
    option_and_then (λ n. option_map (λ parent. (parent, n.name)) n.parent) (node_at number nodes)

-- the names that lead to a node from at most so many directories above it
abbrev pub names_below : (left number : ℕ) → List Node → List (List ℕ)
names_below zero number nodes = []
names_below (suc left) number nodes =
    option_map_or (λ entry. names_below left entry.0 nodes ++ entry.1 ∷ []) (entry_at number nodes)
    []

-- the names that lead to a node from the root. A directory has a smaller number than what is in
-- it, so there are no more than the number says
abbrev pub names_to : ℕ → List Node → List (List ℕ)
names_to number nodes = names_below number number nodes

-- a slash before each name; the root is a slash alone
abbrev pub rooted_path : List (List ℕ) → List ℕ
rooted_path [] = codes "/"
rooted_path (name ∷ names) = flat_map (λ n. codes "/" ++ n) (name ∷ names)

-- the name of the server of this number
abbrev pub server_name : ℕ → World → List ℕ
server_name server world = unwrap_or (slice_get world.servers server) []

-- `server:/path`
abbrev pub path_of : World → NodeRef → List ℕ
path_of world at =
    server_name at.server world ++ codes ":"
    ++ rooted_path (names_to at.number (server_at at.server world.forest).nodes)

-- `#server/path`
abbrev pub node_path : World → NodeRef → List ℕ
node_path world at =
    codes "#" ++ server_name at.server world
    ++ rooted_path (names_to at.number (server_at at.server world.forest).nodes)

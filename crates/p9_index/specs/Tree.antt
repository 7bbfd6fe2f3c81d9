-- What the maps of a tree say of the list of its nodes.
use Rattle.std.specs.Prelude.{◌≡◌, ◌≢◌, ◌↔◌, ℕ, Bool, true, false, List, Option, Some, All}
use Rattle.std.specs.Prelude.{unwrap_or}
use Rattle.std.specs.Option.{option_map_or}
use Rattle.std.specs.Map.{values_of}
use Rattle.p9_index.specs.declared.entries.Child.{Child}
use Rattle.p9_tree.specs.declared.change.Change.{Change}
use Rattle.p9_tree.specs.declared.node.Entry.{Entry}
use Rattle.p9_tree.specs.Node.{Node, is_child, is_in}
use Rattle.p9_tree.specs.Server.{Server, node_at}

-- the server of these nodes by number
abbrev pub server_of : List (ℕ × Node) → ℕ → Server
server_of nodes next = record { nodes = values_of nodes; next = next }

-- the node of the number is in the directory
abbrev pub stands_in : (dir number : ℕ) → List Node → Bool
stands_in dir number nodes = option_map_or (is_in dir) (node_at number nodes) false

-- and there under the name
abbrev pub stands_at : Entry → ℕ → List Node → Bool
stands_at e number nodes = option_map_or (is_child e.parent e.name) (node_at number nodes) false

-- each node is kept at its number; a child is listed exactly where the node of its number is in
-- its directory; an entry has exactly the number of the node that is there
pub record IsIndex (nodes : List (ℕ × Node)) (is_listed : Child → Bool)
    (number_at : Entry → Option ℕ) : Type 0 where
  pub keyed : All (λ n. n.1.number ≡ n.0) nodes
  pub listed : (c : Child) → is_listed c ≡ stands_in c.dir c.number (values_of nodes)
  pub named : (e : Entry) (k : ℕ)
      → (number_at e ≡ Some k) ↔ (stands_at e k (values_of nodes) ≡ true)

-- the node is at the first entry, and the change gives it the second, of another name
pub record Renames (from to : Entry) (change : Change) (n : Node) : Type 0 where
  pub parent : n.parent ≡ Some from.parent
  pub name : n.name ≡ from.name
  pub dir : to.parent ≡ from.parent
  pub new_name : change.name ≡ Some to.name
  pub other : to.name ≢ from.name

-- the change leaves the node its name
abbrev pub KeepsName : Change → Node → Type 0
KeepsName change n = unwrap_or change.name n.name ≡ n.name

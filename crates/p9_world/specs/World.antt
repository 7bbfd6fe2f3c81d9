-- A world: what its lines have made so far.
use Rattle.std.specs.Prelude.{◌≡◌, ◌≢◌, ℕ, Bool, ◌<◌, ◌≤◌, List, [], length, map, string_bytes, All}
use Rattle.std.specs.Prelude.{AllPairs, ◌&&◌, nat_eq, nat_lt}
use Rattle.std.specs.List.{list_all}
use Rattle.std.specs.declared.string.String.{String}
use Rattle.p9_base.specs.Group.{GroupRow}
use Rattle.p9_base.specs.declared.node_ref.NodeRef.{NodeRef}
use Rattle.p9_base.specs.NodeRef.{servers_max}
use Rattle.p9_base.specs.Variable.{Variable, variables_of}
use Rattle.p9_tree.specs.Server.{Server}
use Rattle.p9_tree.specs.Forest.{next_of}

-- the servers' trees and names, both by number, the users, the groups, the hidden directories, and
-- the variables with their values
pub record World : Type 0 where
  pub forest : List Server
  pub users : List (List ℕ)
  pub groups : List GroupRow
  pub hidden : List NodeRef
  pub vars : List Variable
  pub servers : List (List ℕ)

-- each tree has one name, which no other has, and each hidden number was given by its server
pub record IsWorld (w : World) : Type 0 where
  pub named : length w.servers ≡ length w.forest
  pub few : length w.forest ≤ servers_max
  pub distinct : AllPairs (λ a b. a ≢ b) w.servers
  pub below : All (λ r. r.number < next_of r.server w.forest) w.hidden

-- whether each of these numbers was given by its server
abbrev pub are_given : List NodeRef → List Server → Bool
are_given nodes forest = list_all (λ r. nat_lt r.number (next_of r.server forest)) nodes

-- whether a forest can take the place of the world's: it has as many servers, and each hidden number
-- was given
abbrev pub takes_forest : List Server → World → Bool
takes_forest forest w =
    nat_eq (length forest) (length w.servers) && are_given w.hidden forest

-- the world of no lines
abbrev pub empty_world : World
empty_world = record {
  forest = [];
  users = [];
  groups = [];
  hidden = [];
  vars = [];
  servers = [];
}

-- a world of the code, as it is seen
abbrev pub world_view : {A : Type 0} → List Server → List (List ℕ) → List GroupRow
    → List NodeRef → List (String A × String A) → List (String A) → World
world_view forest users groups hidden vars servers = record {
  forest = forest;
  users = users;
  groups = groups;
  hidden = hidden;
  vars = variables_of vars;
  servers = map string_bytes servers;
}

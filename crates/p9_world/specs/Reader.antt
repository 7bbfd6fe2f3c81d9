-- A world as far as its text is read, with what finds a second line of a name.
use Rattle.std.specs.Prelude.{◌≡◌, ℕ, List, map}
use Rattle.std.specs.BTreeSet.{BTreeSet, contains}
use Rattle.std.specs.declared.cmp.Ordering.{Ordering}
use Rattle.std.specs.Ordering.{nat_cmp, ordering_then}
use Rattle.p9_base.specs.declared.node_ref.NodeRef.{NodeRef}
use Rattle.p9_base.specs.Variable.{Variable}
use Rattle.p9_tree.specs.Forest.{server_at}
use Rattle.p9_world.specs.declared.last_dir.LastDir.{LastDir}
use Rattle.p9_world.specs.declared.positions.Positions.{Positions}
use Rattle.p9_world.specs.Entry.{last_number}
use Rattle.p9_world.specs.Hide.{is_hidden_by}
use Rattle.p9_world.specs.LastDir.{IsWhereNamesLead}
use Rattle.p9_world.specs.Positions.{Indexes}
use Rattle.p9_world.specs.World.{IsWorld, World}

-- nodes by their servers, then by their numbers
abbrev pub node_cmp : NodeRef → NodeRef → Ordering
node_cmp a b = ordering_then (nat_cmp a.server b.server) (nat_cmp a.number b.number)

-- the names of variables
abbrev pub variable_names : List Variable → List (List ℕ)
variable_names vars = map (λ var. var.0) vars

-- the set has the hidden directories
abbrev pub HasHidden : BTreeSet NodeRef → List NodeRef → Type 0
HasHidden set hidden = (node : NodeRef) → contains node_cmp set node ≡ is_hidden_by hidden node

-- users, variables and servers have their positions, the set has the hidden directories, and the
-- names of the last directory lead to it at the last server
pub record IsReader {Z : Type 0} (w : World) (user_positions var_positions : Positions Z)
    (server_positions : Positions Z) (hidden_set : BTreeSet NodeRef) (last_dir : LastDir Z)
    : Type 0 where
  pub world : IsWorld w
  pub users : Indexes user_positions w.users
  pub vars : Indexes var_positions (variable_names w.vars)
  pub servers : Indexes server_positions w.servers
  pub hidden : HasHidden hidden_set w.hidden
  pub led : IsWhereNamesLead last_dir (server_at (last_number w) w.forest)

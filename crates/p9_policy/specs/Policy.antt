-- What stays as it is while an exporter serves, beside the mount table.
use Rattle.std.specs.Prelude.{ℕ, List}
use Rattle.p9_base.specs.Group.{GroupRow}
use Rattle.p9_base.specs.declared.node_ref.NodeRef.{NodeRef}
use Rattle.p9_world.specs.World.{World}

-- who is listed, the groups, and which directories are hidden
pub record Policy : Type 0 where
  pub users : List (List ℕ)
  pub groups : List GroupRow
  pub hidden : List NodeRef

-- that of a world
abbrev pub policy_of : World → Policy
policy_of world = record { users = world.users; groups = world.groups; hidden = world.hidden }

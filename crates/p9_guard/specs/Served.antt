-- The state in which an export begins.
use Rattle.std.specs.Prelude.{List, []}
use Rattle.p9_space.specs.Table.{MountRow}
use Rattle.p9_world.specs.World.{World}
use Rattle.p9_step.specs.State.{State}

-- the world's forest is served to its users by the mount table, without sessions yet
abbrev pub served : World → List MountRow → State
served world table = record {
  setting = record { users = world.users; groups = world.groups; table = table };
  forest = world.forest;
  sessions = [];
}

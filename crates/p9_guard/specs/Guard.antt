-- A guard, as its callers see it.
use Rattle.std.specs.Prelude.{List, Option, Some, None}
use Rattle.p9_base.specs.declared.node_ref.NodeRef.{NodeRef}
use Rattle.p9_space.specs.Table.{MountRow}
use Rattle.p9_world.specs.World.{World}
use Rattle.p9_step.specs.State.{State}
use Rattle.p9_cert.specs.declared.gap.Gap.{Gap}
use Rattle.p9_guard_laws.specs.Grown.{Start, start_of}
use Rattle.p9_guard.specs.declared.cause.Cause.{Cause}
use Rattle.p9_guard.specs.declared.cause.Cause.TheVariants.{Gap as GapCause, NoMemory}
use Rattle.p9_guard.specs.Served.{served}

-- the state that it serves, what is hidden, and what it began with: the rows of the certificate,
-- and each server's next number
pub record Guarded : Type 0 where
  pub state : State
  pub hidden : List NodeRef
  pub start : Start

-- a new guard
abbrev pub new_guard : World → List MountRow → List NodeRef → Guarded
new_guard world table rows = record {
  state = served world table;
  hidden = world.hidden;
  start = start_of rows world.forest;
}

-- the gap that is the cause
abbrev pub gap_of : Cause → Option Gap
gap_of (GapCause gap) = Some gap
gap_of NoMemory = None

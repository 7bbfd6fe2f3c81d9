-- Lives of a server whose changes are kept, with a crash or an end behind each.
use Rattle.std.specs.Prelude.{◌≡◌, List, [], ◌∷◌, None}
use Rattle.p9_base.specs.declared.node_ref.NodeRef.{NodeRef}
use Rattle.p9_tree.specs.Forest.{IsForest}
use Rattle.p9_tree.specs.Inside.{inner}
use Rattle.p9_tree.specs.Journal.{IsAlike}
use Rattle.p9_tree.specs.Server.{Server}
use Rattle.p9_tree.specs.Unread.{all_unread}
use Rattle.p9_space.specs.Table.{MountRow}
use Rattle.p9_world.specs.World.{World}
use Rattle.p9_step.specs.Step.{Marked}
use Rattle.p9_cert.specs.Gap.{first_gap}
use Rattle.p9_cert.specs.Policy.{policy_of}
use Rattle.p9_guard.specs.Sentence.{CanHappen, IsWellFormed}
use Rattle.p9_guard.specs.Served.{served}
use Rattle.p9_input_laws.specs.Lives.{IsLeftWell, IsLifePromised, left_after}

-- A life: the events of it whose changes were kept, and the forest that was recovered. It is
-- well-formed, and that after these events, apart from times of last access.
pub record Life : Type 0 where
  pub events : List Marked
  pub recovered : List Server

pub record IsLife (world : World) (table : List MountRow) (life : Life) : Type 0 where
  pub happen : CanHappen (served world table) life.events
  pub well : IsForest life.recovered
  pub alike : IsAlike life.recovered (left_after world table life.events).forest

-- the world with which the next life begins
abbrev pub next_world : World → Life → World
next_world world life = record world { forest = life.recovered }

-- each life begins with what was recovered after the one before
abbrev pub AreLives : World → List MountRow → List Life → Type 0
AreLives world table [] = Unit {0}
AreLives world table (life ∷ lives) =
    IsLife world table life × AreLives (next_world world life) table lives

-- the world that is there after all of them
abbrev pub world_after : World → List Life → World
world_after world [] = world
world_after world (life ∷ lives) = world_after (next_world world life) lives

-- the theorem holds of each life
abbrev pub AreLivesPromised : World → List MountRow → List Life → Type 0
AreLivesPromised world table [] = Unit {0}
AreLivesPromised world table (life ∷ lives) =
    IsLifePromised world table life.events × AreLivesPromised (next_world world life) table lives

-- what is inside hidden directories is the same, apart from times of last access
abbrev pub IsSameInside : List NodeRef → List Server → List Server → Type 0
IsSameInside hidden forest other = inner hidden (all_unread forest) ≡ inner hidden (all_unread other)

-- The theorem holds of each life. Over all of them nothing inside has changed. The world that is
-- there can be sealed.
pub record CrashesSpareInsides (A : Type 0) (world : World) (table : List MountRow)
    (lives : List Life) : Type 0 where
  pub promised : AreLivesPromised world table lives
  pub insides : IsSameInside world.hidden (world_after world lives).forest world.forest
  pub left : IsLeftWell A (world_after world lives) table

-- so it is of any number of lives, where the checker finds no gap in a certificate over the first
-- world; no certificate of a later one is needed
abbrev pub CrashesChangeNothingInside : Type 0 → Type 0
CrashesChangeNothingInside A =
    (world : World) (table : List MountRow) (certificate : List NodeRef)
    → IsWellFormed world table
    → first_gap (policy_of world) world.forest table certificate ≡ None
    → (lives : List Life) → AreLives world table lives → CrashesSpareInsides A world table lives

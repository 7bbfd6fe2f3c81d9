-- What a play text does not depend on.
use Rattle.std.specs.Prelude.{◌≡◌, Bool, List, None}
use Rattle.std.specs.List.{AllByRecursion}
use Rattle.p9_base.specs.declared.node_ref.NodeRef.{NodeRef}
use Rattle.p9_space.specs.Table.{MountRow}
use Rattle.p9_world.specs.World.{World}
use Rattle.p9_step.specs.Event.{Event, IsEvent}
use Rattle.p9_cert.specs.Gap.{first_gap}
use Rattle.p9_cert.specs.Policy.{policy_of}
use Rattle.p9_guard.specs.Sentence.{IsWellFormed}
use Rattle.p9_guard.specs.Served.{served}
use Rattle.p9_guard_laws.specs.Alike.{AreAlike}
use Rattle.p9_play.specs.Play.{play_text}

-- two worlds with one mount table and one certificate, in which the checker finds no gap over the
-- first: where they differ only inside hidden directories, a script prints the same text over both,
-- if the same requests fail for memory
abbrev pub AlikeWorldsPlayAlike : Type 0
AlikeWorldsPlayAlike =
    (world other : World) (table : List MountRow) (certificate : List NodeRef)
    → IsWellFormed world table
    → first_gap (policy_of world) world.forest table certificate ≡ None
    → AreAlike world.hidden (served world table) (served other table)
    → (events : List Event) (marks : List Bool) → AllByRecursion IsEvent events
    → play_text (served other table) events marks ≡ play_text (served world table) events marks

-- The theorem as one sentence, of definitions alone, and how promises join.
use Rattle.std.specs.Prelude.{◌≡◌, ℕ, List, ◌++◌, None, IsTrue}
use Rattle.std.specs.List.{AllByRecursion, concat}
use Rattle.p9_base.specs.declared.node_ref.NodeRef.{NodeRef}
use Rattle.p9_tree.specs.Forest.{IsForest}
use Rattle.p9_space.specs.Table.{MountRow}
use Rattle.p9_world.specs.World.{IsWorld, World}
use Rattle.p9_step.specs.Event.{IsEvent}
use Rattle.p9_step.specs.Sound.{IsSetting}
use Rattle.p9_step.specs.State.{State}
use Rattle.p9_step.specs.Step.{Marked, run}
use Rattle.p9_cert.specs.Gap.{first_gap}
use Rattle.p9_cert.specs.Policy.{policy_of}
use Rattle.p9_guard.specs.Headline.{IsPromised}
use Rattle.p9_guard.specs.Marks.{are_permitted}
use Rattle.p9_guard.specs.Served.{served}

-- a well-formed world, with its trees, its users and groups, and a mount table
pub record IsWellFormed (world : World) (table : List MountRow) : Type 0 where
  pub named : IsWorld world
  pub forest : IsForest world.forest
  pub setting : IsSetting (served world table).setting

-- the events can happen, and an allocation fails only where it may
pub record CanHappen (before : State) (events : List Marked) : Type 0 where
  pub each : AllByRecursion (λ event. IsEvent event.0) events
  pub permitted : IsTrue (are_permitted before events)

-- where the checker finds no gap in a certificate, every list of events that can happen is promised
abbrev pub EveryRunIsPromised : Type 0
EveryRunIsPromised =
    (world : World) (table : List MountRow) (certificate : List NodeRef)
    → IsWellFormed world table
    → first_gap (policy_of world) world.forest table certificate ≡ None
    → (events : List Marked) → CanHappen (served world table) events
    → let done = run (served world table) events in
    IsPromised world.hidden (served world table) events done.state (concat done.replies)

-- what is promised of events, and of those that follow them, is promised of both
abbrev pub PromisesJoin : Type 0
PromisesJoin =
    (hidden : List NodeRef) (before between after : State) (events others : List Marked)
    (bytes more : List ℕ)
    → IsPromised hidden before events between bytes
    → IsPromised hidden between others after more
    → IsPromised hidden before (events ++ others) after (bytes ++ more)

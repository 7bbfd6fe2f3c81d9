-- As if what is inside hidden directories had never been there.
use Rattle.std.specs.Prelude.{◌≡◌, List, None, IsFalse}
use Rattle.p9_base.specs.declared.node_ref.NodeRef.{NodeRef}
use Rattle.p9_tree.specs.Inside.{is_inside, outer}
use Rattle.p9_space.specs.Table.{MountRow}
use Rattle.p9_world.specs.World.{World}
use Rattle.p9_step.specs.State.{State}
use Rattle.p9_step.specs.Step.{Marked, run}
use Rattle.p9_cert.specs.Gap.{first_gap}
use Rattle.p9_cert.specs.Policy.{policy_of}
use Rattle.p9_guard.specs.Marks.{are_permitted}
use Rattle.p9_guard.specs.Sentence.{IsWellFormed}
use Rattle.p9_guard.specs.Served.{served}
use Rattle.p9_guard_laws.specs.Grown.{Start}
use Rattle.p9_guard_laws.specs.Guarded.{IsGuardedState}

-- the state without what is inside hidden directories
abbrev pub outer_state : List NodeRef → State → State
outer_state hidden state = record state { forest = outer hidden state.forest }

-- the world without what is inside its hidden directories
abbrev pub outer_world : World → World
outer_world world = record world { forest = outer world.hidden world.forest }

-- The same events happen, with the same marks, in a state and in another. The replies are the same,
-- one by one. The other ends in the state in which the one ends, without what is inside. The marks
-- are permitted in both or in neither.
pub record RunsAsIfNeverThere (hidden : List NodeRef) (state other : State)
    (events : List Marked) : Type 0 where
  pub replies : (run other events).replies ≡ (run state events).replies
  pub after : (run other events).state ≡ outer_state hidden (run state events).state
  pub permitted : are_permitted other events ≡ are_permitted state events

-- so it is of a guarded state and the same one without what is inside, for any events and marks
abbrev pub RunsAreAsIfNeverThere : Type 0
RunsAreAsIfNeverThere =
    (hidden : List NodeRef) (start : Start) (state : State) (events : List Marked)
    → IsGuardedState hidden start state
    → RunsAsIfNeverThere hidden state (outer_state hidden state) events

-- The world without what is inside is well-formed, and nothing is inside there. The certificate has
-- no gap over it. Whatever happens is answered over it as over the world.
pub record IsAsIfNeverThere (world : World) (table : List MountRow)
    (certificate : List NodeRef) : Type 0 where
  pub well : IsWellFormed (outer_world world) table
  pub empty : (at : NodeRef) → IsFalse (is_inside at world.hidden (outer_world world).forest)
  pub closed : first_gap (policy_of (outer_world world)) (outer_world world).forest table
      certificate ≡ None
  pub runs : (events : List Marked)
      → RunsAsIfNeverThere world.hidden (served world table) (served (outer_world world) table)
      events

-- so it is of every well-formed world, where the checker finds no gap in a certificate
abbrev pub WorldsAreAsIfNeverThere : Type 0
WorldsAreAsIfNeverThere =
    (world : World) (table : List MountRow) (certificate : List NodeRef)
    → IsWellFormed world table
    → first_gap (policy_of world) world.forest table certificate ≡ None
    → IsAsIfNeverThere world table certificate

-- The headline: what is promised of every list of events that a guard was given.
use Rattle.std.specs.Prelude.{◌≡◌, ℕ, List, ◌++◌, Some, IsTrue, map, slice_get, take}
use Rattle.std.specs.List.{concat}
use Rattle.p9_base.specs.declared.node_ref.NodeRef.{NodeRef}
use Rattle.p9_tree.specs.Inside.{inner}
use Rattle.p9_step.specs.State.{State}
use Rattle.p9_step.specs.Event.{Event}
use Rattle.p9_step.specs.Step.{Marked, run}
use Rattle.p9_guard_laws.specs.Alike.{AreAlike}
use Rattle.p9_guard.specs.Marks.{are_permitted, is_answered}

-- Events happened one after another, each with its mark, whether an allocation failed in it.
-- Between the state before and the state after these bytes were given as replies.
pub record IsPromised (hidden : List NodeRef) (before : State) (events : List Marked)
    (after : State) (bytes : List ℕ) : Type 0 where
  -- an allocation failed only where it may be
  pub permitted : IsTrue (are_permitted before events)
  -- the new state and the replies, joined, are those of the run
  pub state_is : after ≡ (run before events).state
  pub bytes_are : bytes ≡ concat (run before events).replies
  -- nothing inside a hidden directory has changed
  pub insides : inner hidden after.forest ≡ inner hidden before.forest
  -- a run from any state that differs only inside hidden directories gives the same replies, and
  -- leads to a state that differs only there. Each member of the mount table and each place of a
  -- fid exists in both states or in neither: AreAlike says so
  pub same_replies : (other : State) → AreAlike hidden before other
      → (run other events).replies ≡ (run before events).replies
  pub same_state : (other : State) → AreAlike hidden before other
      → AreAlike hidden after (run other events).state

-- The events happened, with some marks, and their replies were appended to the bytes before.
pub record HasRun (hidden : List NodeRef) (before : State) (events : List Event) (after : State)
    (old new : List ℕ) : Type 0 where
  pub marked : List Marked
  pub events_are : map (λ event. event.0) marked ≡ events
  pub bytes : List ℕ
  pub appended : new ≡ old ++ bytes
  pub promised : IsPromised hidden before marked after bytes

-- The first so many events happened so. There are more, and the next one has a reply, for which
-- there was no room.
pub record HasStopped (hidden : List NodeRef) (before : State) (events : List Event) (done : ℕ)
    (after : State) (old new : List ℕ) : Type 0 where
  pub first : HasRun hidden before (take done events) after old new
  pub next : Event
  pub next_is : slice_get events done ≡ Some next
  pub has_reply : IsTrue (is_answered after next)

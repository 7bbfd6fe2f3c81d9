-- What the laws of fixed states say.
use Rattle.std.specs.Prelude.{◌≡◌, ℕ, Bool, List, [], IsFalse}
use Rattle.std.specs.List.{AllByRecursion}
use Rattle.p9_tree.specs.Unread.{all_unread}
use Rattle.p9_step.specs.Event.{Event, IsEvent}
use Rattle.p9_step.specs.Sound.{IsState}
use Rattle.p9_step.specs.State.{State}
use Rattle.p9_step.specs.Step.{Marked, run, step}
use Rattle.p9_fixed_laws.specs.States.{IsFixedInput, IsFixedState, Sealed, is_asked, reads_file}
use Rattle.p9_fixed_laws.specs.Alone.{AreOneToSession, IsAsAlone, OthersReadNoFile, alone}
use Rattle.p9_fixed_laws.specs.Alone.{events_of, replies_to}

-- a state without sessions, with the sealed forest, is fixed
abbrev pub FixedBegins : Type 0
FixedBegins =
    (sealed : Sealed) (state : State) → IsState state → state.sessions ≡ []
    → state.forest ≡ sealed.forest → IsFixedInput sealed state.setting → IsFixedState sealed state

-- the state after a step of a fixed state: it is fixed, under the same setting, and if the event is
-- no read of a file, its forest is the same
pub record IsFixedStep (sealed : Sealed) (state : State) (event : Event) (after : State) : Type 0
  where
    pub fixed : IsFixedState sealed after
    pub setting : after.setting ≡ state.setting
    pub same : IsFalse (is_asked reads_file state event) → after.forest ≡ state.forest

-- one event, with any mark
abbrev pub StepStaysFixed : Type 0
StepStaysFixed =
    (sealed : Sealed) (state : State) (event : Event) (refused : Bool)
    → IsFixedState sealed state → IsEvent event
    → IsFixedStep sealed state event (step state event refused).state

-- the state after a run from a fixed state: it is fixed, under the same setting, and the forest is
-- the same apart from times of last access
pub record IsFixedRun (sealed : Sealed) (state after : State) : Type 0 where
  pub fixed : IsFixedState sealed after
  pub setting : after.setting ≡ state.setting
  pub same : all_unread after.forest ≡ all_unread state.forest

-- any events, with any marks
abbrev pub RunStaysFixed : Type 0
RunStaysFixed =
    (sealed : Sealed) (state : State) (events : List Marked) → IsFixedState sealed state
    → AllByRecursion (λ event. IsEvent event.0) events
    → IsFixedRun sealed state (run state events).state

-- a session is what its own events make of it, and is told what they tell it, but times of last
-- access
abbrev pub SessionsAreAlone : Type 0
SessionsAreAlone =
    (sealed : Sealed) (state : State) (events : List Marked) (name : ℕ)
    → IsFixedState sealed state → AllByRecursion (λ event. IsEvent event.0) events
    → IsAsAlone name state events (run state events)
    (run (alone name state) (events_of name events))

-- these times too, where no other session reads a file
abbrev pub NoReadsNoDifference : Type 0
NoReadsNoDifference =
    (sealed : Sealed) (state : State) (events : List Marked) (name : ℕ)
    → IsFixedState sealed state → AllByRecursion (λ event. IsEvent event.0) events
    → OthersReadNoFile name state events
    → replies_to name events (run state events).replies
    ≡ (run (alone name state) (events_of name events)).replies

-- so two runs in which a session does the same are one to it, whatever other sessions do in each
abbrev pub OthersDontShow : Type 0
OthersDontShow =
    (sealed : Sealed) (state : State) (events others : List Marked) (name : ℕ)
    → IsFixedState sealed state → AllByRecursion (λ event. IsEvent event.0) events
    → AllByRecursion (λ event. IsEvent event.0) others
    → events_of name events ≡ events_of name others
    → AreOneToSession name state events others (run state events) (run state others)

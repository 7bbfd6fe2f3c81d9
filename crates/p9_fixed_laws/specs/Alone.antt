-- What a session of an export is told, and what it is told if there is no other.
use Rattle.std.specs.Prelude.{◌≡◌, ℕ, ◌-◌, ◌^◌, ◌==◌, Bool, true, false, not, List, [], ◌∷◌, IsFalse}
use Rattle.std.specs.Prelude.{Option, None, Some, filter, length, if◌then◌else◌}
use Rattle.p9_tree.specs.Forest.{IsForest}
use Rattle.p9_tree.specs.Node.{is_dir}
use Rattle.p9_tree.specs.Server.{Server}
use Rattle.p9_tree.specs.Unread.{all_unread}
use Rattle.p9_wire.specs.Message.{TMessage, Tread, Tstat, Twstat}
use Rattle.p9_step.specs.Event.{Close, Event, Message, Open}
use Rattle.p9_step.specs.State.{Session, SessionRow, Setting, State, session_at}
use Rattle.p9_step.specs.Step.{Marked, Ran, step}
use Rattle.p9_fixed_laws.specs.States.{is_asked, is_on, reads_file}

-- the event is one of the session of the name
abbrev pub is_of : (name : ℕ) → Event → Bool
is_of name (Open other) = other == name
is_of name (Message other frame clock) = other == name
is_of name (Close other clock) = other == name

-- the events of a session, with their marks
abbrev pub events_of : (name : ℕ) → List Marked → List Marked
events_of name events = filter (λ event. is_of name event.0) events

-- of the replies to events, those to the events of a session
abbrev pub replies_to : (name : ℕ) → List Marked → (replies : List (List ℕ)) → List (List ℕ)
replies_to name [] replies = []
replies_to name (event ∷ events) [] = []
replies_to name (event ∷ events) (reply ∷ replies) =
    if is_of name event.0 then reply ∷ replies_to name events replies
    else replies_to name events replies

-- one session, or none
abbrev pub one_session : (name : ℕ) → Option Session → List SessionRow
one_session name None = []
one_session name (Some session) = (name, session) ∷ []

-- the state without the other sessions
abbrev pub alone : (name : ℕ) → State → State
alone name state =
    record state { sessions = one_session name (session_at name state.sessions) }

-- the state with this forest
abbrev pub with_forest : List Server → State → State
with_forest forest state = record state { forest = forest }

-- a message whose reply may tell times of last access: a stat, and a read of a directory
abbrev pub tells_times : Setting → List Server → Session → TMessage → Bool
tells_times setting forest session (Tstat fid) = true
tells_times setting forest session (Tread fid offset count) =
    is_on is_dir setting forest session fid
tells_times setting forest session other = false

-- a wstat that names a time of last access: it is refused, unless the file has that time
abbrev pub names_time : Setting → List Server → Session → TMessage → Bool
names_time setting forest session (Twstat fid stat) = not (stat.atime == 2 ^ 32 - 1)
names_time setting forest session other = false

-- The reply to an event is the one that this state gives, if the times of last access in its forest
-- are others. If the event is neither a stat, nor a read of a directory, nor a wstat that names such
-- a time, it is the very reply. If it is no such wstat, the reply is as long
pub record IsToldButTimes (state : State) (event : Marked) (reply : List ℕ) : Type 0 where
  pub forest : List Server
  pub sound : IsForest forest
  pub others : all_unread forest ≡ all_unread state.forest
  pub told : reply ≡ (step (with_forest forest state) event.0 event.1).reply
  pub same : IsFalse (is_asked tells_times state event.0)
      → IsFalse (is_asked names_time state event.0) → reply ≡ (step state event.0 event.1).reply
  pub long : IsFalse (is_asked names_time state event.0)
      → length reply ≡ length (step state event.0 event.1).reply

-- the same of the replies to events one after another
abbrev pub AreToldButTimes : State → List Marked → (replies : List (List ℕ)) → Type 0
AreToldButTimes state [] [] = Unit {0}
AreToldButTimes state [] (reply ∷ replies) = ⊥
AreToldButTimes state (event ∷ events) [] = ⊥
AreToldButTimes state (event ∷ events) (reply ∷ replies) =
    IsToldButTimes state event reply
    × AreToldButTimes (step state event.0 event.1).state events replies

-- what a run of all events makes of a session is what the run of its own events makes of it, from
-- the state where it is alone, and it is told the same but times of last access
pub record IsAsAlone (name : ℕ) (state : State) (events : List Marked) (done by_itself : Ran)
    : Type 0 where
  pub session : session_at name done.state.sessions ≡ session_at name by_itself.state.sessions
  pub replies : AreToldButTimes (alone name state) (events_of name events)
      (replies_to name events done.replies)

-- no event of another session is a read of a file
abbrev pub OthersReadNoFile : (name : ℕ) → State → List Marked → Type 0
OthersReadNoFile name state [] = Unit {0}
OthersReadNoFile name state (event ∷ events) =
    (IsFalse (is_of name event.0) → IsFalse (is_asked reads_file state event.0))
    × OthersReadNoFile name (step state event.0 event.1).state events

-- two runs of events make the same of a session, and if in neither of them another session reads a
-- file, they tell it the same
pub record AreOneToSession (name : ℕ) (state : State) (events others : List Marked)
    (done other : Ran) : Type 0 where
  pub session : session_at name done.state.sessions ≡ session_at name other.state.sessions
  pub replies : OthersReadNoFile name state events → OthersReadNoFile name state others
      → replies_to name events done.replies ≡ replies_to name others other.replies

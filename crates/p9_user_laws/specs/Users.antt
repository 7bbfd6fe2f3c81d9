-- As whom a session attaches, and to whom its fids belong.
use Rattle.std.specs.Prelude.{◌≡◌, ℕ, Bool, IsTrue, List, Some}
use Rattle.std.specs.List.{AllByRecursion, list_any}
use Rattle.std.specs.Str.{bytes_eq}
use Rattle.p9_base.specs.Rising.{IsRising}
use Rattle.p9_wire.specs.Message.{Tattach}
use Rattle.p9_wire.specs.Reading.{t_message_of}
use Rattle.p9_step.specs.Event.{Close, Event, Message, Open}
use Rattle.p9_step.specs.State.{Session, State, session_at}
use Rattle.p9_step.specs.Step.{Marked, run}

-- the user is one of these
abbrev pub is_among : (user : List ℕ) → (users : List (List ℕ)) → Bool
is_among user users = list_any (λ one. bytes_eq one user) users

-- each fid of the session belongs to one of these users
abbrev pub BelongTo : (users : List (List ℕ)) → Session → Type 0
BelongTo users session = AllByRecursion (λ row. IsTrue (is_among row.1.user users)) session.fids

-- the session of the name, if it is there, has fids of these users alone
abbrev pub OwnsOnly : (allowed : List (List ℕ)) → (name : ℕ) → State → Type 0
OwnsOnly allowed name state =
    (session : Session) → session_at name state.sessions ≡ Some session → BelongTo allowed session

-- a frame attaches as no listed user but an allowed one
abbrev pub IsHarmless : (allowed listed : List (List ℕ)) → (frame : List ℕ) → Type 0
IsHarmless allowed listed frame =
    (tag fid afid : ℕ) (uname aname : List ℕ)
    → t_message_of frame ≡ Some (tag, Tattach fid afid uname aname)
    → IsTrue (is_among uname listed) → IsTrue (is_among uname allowed)

-- the same of an event, if it is a frame of the session of the name
abbrev pub IsHarmlessEvent : (allowed listed : List (List ℕ)) → (name : ℕ) → Event → Type 0
IsHarmlessEvent allowed listed name (Open other) = Unit {0}
IsHarmlessEvent allowed listed name (Message other frame clock) =
    other ≡ name → IsHarmless allowed listed frame
IsHarmlessEvent allowed listed name (Close other clock) = Unit {0}

-- the same of each of these events
abbrev pub AreHarmless : (allowed listed : List (List ℕ)) → (name : ℕ) → List Marked → Type 0
AreHarmless allowed listed name events =
    AllByRecursion (λ event. IsHarmlessEvent allowed listed name event.0) events

-- The sessions are by rising name, as in every state that the exporter comes to.
-- The session of the name has fids of allowed users alone.
-- No frame of it attaches as another listed user.
-- Then the session of the name has fids of allowed users alone after the events.
abbrev pub FidsBelongToWhoAttached : Type 0
FidsBelongToWhoAttached =
    (allowed : List (List ℕ)) (name : ℕ) (state : State) (events : List Marked)
    → IsRising state.sessions → OwnsOnly allowed name state
    → AreHarmless allowed state.setting.users name events
    → OwnsOnly allowed name (run state events).state

-- What a list of turns comes to, of any connections on one guard.
use Rattle.std.specs.Prelude.{◌≡◌, ◌≢◌, ℕ, ◌==◌, List, [], ◌∷◌, ◌++◌, if◌then◌else◌, map}
use Rattle.p9_step.specs.Event.{Event, Close, Message, Open}
use Rattle.p9_step.specs.State.{State}
use Rattle.p9_step.specs.Step.{Marked}
use Rattle.p9_conn.specs.Turn.{Deeds, Answered, IsTurn, Link}

-- a turn of the connection of a session, at a reading of the clock, and what it did
pub record Happening : Type 0 where
  pub session : ℕ
  pub clock : ℕ
  pub deeds : Deeds

-- the connection of each session
abbrev pub Links : Type 0
Links = ℕ → Link

-- one turn: it is of one connection, and the others are as they were
pub record Happens (h : Happening) (links : Links) (state : State) (links' : Links)
    (state' : State) : Type 0 where
  pub turn : IsTurn h.session h.clock (record { link = links h.session; state = state })
      (record { link = links' h.session; state = state' }) h.deeds
  pub others : (session : ℕ) → session ≢ h.session → links' session ≡ links session

-- turns, one after another, lead from connections and a state to others
abbrev pub Runs : List Happening → Links → State → Links → State → Type 0
Runs [] links state links' state' =
    ((session : ℕ) → links' session ≡ links session) × (state' ≡ state)
Runs (h ∷ hs) links state links' state' =
    (between : Links) × (mid : State) × Happens h links state between mid
    × Runs hs between mid links' state'

-- the events of all turns, in order
abbrev pub history : List Happening → List Answered
history [] = []
history (h ∷ hs) = h.deeds.answered ++ history hs

abbrev pub events_of : List Answered → List Marked
events_of answered = map (λ entry. entry.event) answered

abbrev pub replies_of : List Answered → List (List ℕ)
replies_of answered = map (λ entry. entry.reply) answered

-- those of one session's turns, in order
abbrev pub history_by : ℕ → List Happening → List Answered
history_by session [] = []
history_by session (h ∷ hs) =
    (if h.session == session then h.deeds.answered else []) ++ history_by session hs

-- what one session's connection read, and what it wrote
abbrev pub read_by : ℕ → List Happening → List ℕ
read_by session [] = []
read_by session (h ∷ hs) =
    (if h.session == session then h.deeds.read else []) ++ read_by session hs

abbrev pub written_by : ℕ → List Happening → List ℕ
written_by session [] = []
written_by session (h ∷ hs) =
    (if h.session == session then h.deeds.written else []) ++ written_by session hs

-- the frame of an event that has one
abbrev pub frame_in : Event → List (List ℕ)
frame_in (Open name) = []
frame_in (Message name frame clock) = frame ∷ []
frame_in (Close name clock) = []

-- the frames that were answered
abbrev pub frames_in : List Answered → List (List ℕ)
frames_in [] = []
frames_in (entry ∷ answered) = frame_in entry.event.0 ++ frames_in answered

-- A server's life: what happens to its clients, one thing after another.
use Rattle.std.specs.Prelude.{◌≡◌, ℕ, ◌==◌, false, List, [], ◌∷◌, ◌++◌}
use Rattle.std.specs.Prelude.{Option, Some, if◌then◌else◌}
use Rattle.p9_step.specs.Event.{Open}
use Rattle.p9_conn.specs.Conn.{Connection}
use Rattle.p9_conn.specs.History.{Happening}
use Rattle.p9_conn.specs.Turn.{Answered, closing}
use Rattle.p9_conn.specs.declared.conn.Turn.{Turn}
use Rattle.p9_clients.specs.Serving.{HasEndedAt, HasTurnAt, IsTakenIn, Serving, slot_at}
use Rattle.p9_serve.specs.Rounds.{HasRound, Running, entered_in}
use Rattle.p9_serve.specs.declared.server.Round.{Round}

-- a client arrives and gets a key, a connection has a turn and does what it does, or a connection
-- leaves at the end
pub data Moment : Type 0 where
  Arrives : (key : ℕ) → Moment
  Acts : Happening → Moment
  Leaves : (key clock : ℕ) → Moment

-- the opening of the session of a key
abbrev pub opening : (key : ℕ) → Answered
opening key = record { event = (Open key, false); reply = [] }

-- the events of a moment, each with its mark and its reply
abbrev pub events_in : Moment → List Answered
events_in (Arrives key) = opening key ∷ []
events_in (Acts h) = h.deeds.answered
events_in (Leaves key clock) = closing key clock ∷ []

-- all openings, messages and closings, in their order
abbrev pub history : List Moment → List Answered
history [] = []
history (moment ∷ moments) = events_in moment ++ history moments

-- the moments until the key is given to another client
abbrev pub stay : (key : ℕ) → List Moment → List Moment
stay key [] = []
stay key (Arrives other ∷ moments) =
    if other == key then [] else Arrives other ∷ stay key moments
stay key (Acts h ∷ moments) = Acts h ∷ stay key moments
stay key (Leaves other clock ∷ moments) = Leaves other clock ∷ stay key moments

-- what the turns at a key answered, what they read, and what they wrote
abbrev pub answered_at : (key : ℕ) → List Moment → List Answered
answered_at key [] = []
answered_at key (Arrives other ∷ moments) = answered_at key moments
answered_at key (Acts h ∷ moments) =
    (if h.session == key then h.deeds.answered else []) ++ answered_at key moments
answered_at key (Leaves other clock ∷ moments) = answered_at key moments

abbrev pub read_at : (key : ℕ) → List Moment → List ℕ
read_at key [] = []
read_at key (Arrives other ∷ moments) = read_at key moments
read_at key (Acts h ∷ moments) =
    (if h.session == key then h.deeds.read else []) ++ read_at key moments
read_at key (Leaves other clock ∷ moments) = read_at key moments

abbrev pub written_at : (key : ℕ) → List Moment → List ℕ
written_at key [] = []
written_at key (Arrives other ∷ moments) = written_at key moments
written_at key (Acts h ∷ moments) =
    (if h.session == key then h.deeds.written else []) ++ written_at key moments
written_at key (Leaves other clock ∷ moments) = written_at key moments

module _ {S : Type 0} (remaining contents : S → Option (List ℕ)) where
  -- a client with this stream is taken in at this key
  pub record ArrivesAt (key : ℕ) (old new : Serving S) : Type 0 where
    pub stream : S
    pub taken : IsTakenIn stream old new
    pub key_is : taken.key ≡ key

  -- the connection at a key had a turn, which did these deeds
  pub record HasActed (h : Happening) (old new : Serving S) : Type 0 where
    pub conn : Connection S
    pub there : slot_at old.slots h.session ≡ Some conn
    pub turn : Turn
    pub had : HasTurnAt remaining contents h.clock h.session conn old new turn
    pub deeds_are : had.turned.deeds ≡ h.deeds

  -- the connection at a key is ended
  pub record LeavesAt (key clock : ℕ) (old new : Serving S) : Type 0 where
    pub conn : Connection S
    pub there : slot_at old.slots key ≡ Some conn
    pub ended : HasEndedAt clock key old new

  -- a moment leads from clients to clients
  abbrev pub Passes : Moment → Serving S → Serving S → Type 0
  Passes (Arrives key) old new = ArrivesAt key old new
  Passes (Acts h) old new = HasActed h old new
  Passes (Leaves key clock) old new = LeavesAt key clock old new

  -- moments lead from clients to clients, one after another
  abbrev pub Pass : List Moment → Serving S → Serving S → Type 0
  Pass [] old new = new ≡ old
  Pass (moment ∷ moments) old new =
      (between : Serving S) × Passes moment old between × Pass moments between new

  -- rounds at these readings of the clock, one after another
  abbrev pub HasRounds : List ℕ → Running S → Running S → Type 0
  HasRounds [] old new = new ≡ old
  HasRounds (clock ∷ nows) old new =
      (between : Running S) × (round : Round)
      × HasRound remaining contents clock old between round × HasRounds nows between new

  -- the streams of the clients that were taken in in rounds, one after another
  abbrev pub entered_all : (nows : List ℕ) (old new : Running S) → HasRounds nows old new → List S
  entered_all [] old new had = []
  entered_all (clock ∷ nows) old new had =
      entered_in remaining contents clock old had.0 had.1 had.2 ++ entered_all nows had.0 new had.3

-- The clients of a guard, and what rounds make of them.
use Rattle.std.specs.Prelude.{◌≡◌, ◌≢◌, ℕ, zero, suc, ◌≤◌, ◌<◌, ◌^◌, Bool, true, false, List, [], ◌∷◌}
use Rattle.std.specs.Prelude.{◌++◌, Option, Some, None, IsSome, length, slice_index_or, slice_set}
use Rattle.std.specs.Prelude.{◌==◌, count_by, if◌then◌else◌, is_some}
use Rattle.p9_step.specs.Event.{Close, Open}
use Rattle.p9_step.specs.State.{SessionRow, State, session_at}
use Rattle.p9_step.specs.Step.{step}
use Rattle.p9_guard.specs.Guard.{Guarded}
use Rattle.p9_conn.specs.declared.conn.Turn.{Turn}
use Rattle.p9_conn.specs.declared.conn.Turn.TheVariants.{Idle, Moved, Closed}
use Rattle.p9_conn.specs.Conn.{Connection, HasTurned, new_connection}
use Rattle.p9_conn.specs.Turn.{phase_of}
use Rattle.p9_clients.specs.declared.clients.Tally.{Tally}

-- a guard, and the connection at each key from 0 on, where there is one
pub record Serving (S : Type 0) : Type 0 where
  pub guard : Guarded
  pub slots : List (Option (Connection S))

-- the connection at a key
abbrev pub slot_at : {S : Type 0} → List (Option (Connection S)) → ℕ → Option (Connection S)
slot_at slots key = slice_index_or slots key None

-- whether there is no client
abbrev pub has_nobody : {S : Type 0} → Serving S → Bool
has_nobody serving = count_by is_some serving.slots == 0

-- each connection's session is that of its key, and is open
abbrev pub AreKeyed : {S : Type 0} → List (Option (Connection S)) → List SessionRow → Type 0
AreKeyed {S} slots sessions =
    (key : ℕ) (conn : Connection S) → slot_at slots key ≡ Some conn
    → (conn.session ≡ key) × (key < 2 ^ 32) × IsSome (session_at key sessions)

-- a guard in another state
abbrev pub in_state : Guarded → State → Guarded
in_state guard state = record guard { state = state }

-- Taking in.

-- a client was taken in at a key that was free, and its session is open
pub record IsTakenIn {S : Type 0} (stream : S) (old new : Serving S) : Type 0 where
  pub key : ℕ
  pub was_free : slot_at old.slots key ≡ None
  pub was_closed : session_at key old.guard.state.sessions ≡ None
  pub here : slot_at new.slots key ≡ Some (new_connection stream key)
  pub others : (other : ℕ) → other ≢ key → slot_at new.slots other ≡ slot_at old.slots other
  pub guard_is : new.guard ≡ in_state old.guard (step old.guard.state (Open key) false).state

abbrev pub TakesIn : {S : Type 0} → S → Serving S → Serving S → Bool → Type 0
TakesIn stream old new true = IsTakenIn stream old new
TakesIn stream old new false = new ≡ old

-- Turns.

-- a connection had its turn; it is dropped where it is closed now
pub record HasTurnAt {S : Type 0} (remaining contents : S → Option (List ℕ)) (clock key : ℕ)
    (conn : Connection S) (old new : Serving S) (turn : Turn) : Type 0 where
  pub after : Connection S
  pub turned : HasTurned remaining contents (phase_of conn.link) clock conn old.guard after new.guard
      turn
  pub slots_are : new.slots
      ≡ slice_set old.slots key (if after.link.closed then None else Some after)

-- the turn of the connection at a key, if there is one
abbrev pub TurnAt : {S : Type 0} → (remaining contents : S → Option (List ℕ)) (clock key : ℕ)
    → Option (Connection S) → (old new : Serving S) → Option Turn → Type 0
TurnAt remaining contents clock key None old new turn = (new ≡ old) × (turn ≡ None)
TurnAt {S} remaining contents clock key (Some conn) old new None = ⊥
TurnAt remaining contents clock key (Some conn) old new (Some turn) =
    HasTurnAt remaining contents clock key conn old new turn

abbrev pub turns_of : Option Turn → List Turn
turns_of None = []
turns_of (Some turn) = turn ∷ []

-- so many keys, from 0 on, had their turns, one after another; these are what they came to
abbrev pub Turned : {S : Type 0} → (remaining contents : S → Option (List ℕ)) (clock keys : ℕ)
    (old new : Serving S) → List Turn → Type 0
Turned remaining contents clock zero old new turns = (new ≡ old) × (turns ≡ [])
Turned {S} remaining contents clock (suc key) old new turns =
    (between : Serving S) × (first : List Turn) × (turn : Option Turn)
    × Turned remaining contents clock key old between first
    × TurnAt remaining contents clock key (slot_at between.slots key) between new turn
    × (turns ≡ first ++ turns_of turn)

-- whether a turn moved something, and whether it closed its connection
abbrev pub is_moved : Turn → Bool
is_moved Idle = false
is_moved Moved = true
is_moved Closed = false

abbrev pub is_closed : Turn → Bool
is_closed Idle = false
is_closed Moved = false
is_closed Closed = true

-- each connection had a turn, by rising key, and the tally counts what they came to
pub record HasTurns {S : Type 0} (remaining contents : S → Option (List ℕ)) (clock : ℕ)
    (old new : Serving S) (tally : Tally) : Type 0 where
  pub bound : ℕ
  pub all : length old.slots ≤ bound
  pub turns : List Turn
  pub turned : Turned remaining contents clock bound old new turns
  pub moved : tally.moved ≡ count_by is_moved turns
  pub closed : tally.closed ≡ count_by is_closed turns

-- The end.

-- a connection's session is closed, and it is dropped
pub record HasEndedAt {S : Type 0} (clock key : ℕ) (old new : Serving S) : Type 0 where
  pub guard_is : new.guard ≡ in_state old.guard (step old.guard.state (Close key clock) false).state
  pub slots_are : new.slots ≡ slice_set old.slots key None

-- the connection at a key is ended, if there is one
abbrev pub EndAt : {S : Type 0} → (clock key : ℕ) → Option (Connection S) → Serving S → Serving S
    → Type 0
EndAt clock key None old new = new ≡ old
EndAt clock key (Some conn) old new = HasEndedAt clock key old new

-- the connections of so many keys, from 0 on, are ended one after another
abbrev pub Ended : {S : Type 0} → (clock keys : ℕ) → Serving S → Serving S → Type 0
Ended clock zero old new = new ≡ old
Ended {S} clock (suc key) old new =
    (between : Serving S) × Ended clock key old between
    × EndAt clock key (slot_at between.slots key) between new

-- each connection was ended, by rising key, and this guard is left
pub record IsFinished {S : Type 0} (clock : ℕ) (old : Serving S) (guard : Guarded) : Type 0 where
  pub bound : ℕ
  pub all : length old.slots ≤ bound
  pub last : Serving S
  pub ended : Ended clock bound old last
  pub guard_is : guard ≡ last.guard

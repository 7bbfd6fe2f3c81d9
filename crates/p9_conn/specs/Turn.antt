-- One turn of a connection, beside the state of the guard that it is served by.
use Rattle.std.specs.Prelude.{◌≡◌, ℕ, ◌<◌, ◌⊎◌, Bool, true, false, List, [], ◌∷◌, ◌++◌, IsTrue, drop}
use Rattle.std.specs.Prelude.{length, nat_eq, take, if◌then◌else◌}
use Rattle.p9_wire.specs.Frame.{first_frame}
use Rattle.p9_wire.specs.declared.frame.Frame.{Frame}
use Rattle.p9_wire.specs.declared.frame.Frame.TheVariants.{Need, Whole, Broken}
use Rattle.p9_step.specs.Event.{Close, IsEvent, Message}
use Rattle.p9_step.specs.State.{State}
use Rattle.p9_step.specs.Step.{Marked, step}
use Rattle.p9_guard.specs.Marks.{are_permitted}

-- a connection: the bytes that were read and are in no frame yet, those that are to be written,
-- and whether it is closed
pub record Link : Type 0 where
  pub buffer : List ℕ
  pub pending : List ℕ
  pub closed : Bool

-- an event, with its mark, and the reply to it
pub record Answered : Type 0 where
  pub event : Marked
  pub reply : List ℕ

-- what a turn did: the bytes that it read and those that it wrote, and the events that it made
pub record Deeds : Type 0 where
  pub read : List ℕ
  pub written : List ℕ
  pub answered : List Answered

abbrev pub no_deeds : Deeds
no_deeds = record { read = []; written = []; answered = [] }

abbrev pub deeds_of : Answered → Deeds
deeds_of entry = record { read = []; written = []; answered = entry ∷ [] }

-- a connection beside a state
pub record Scene : Type 0 where
  pub link : Link
  pub state : State

-- an event that can happen made its step, with a mark that is permitted
pub record IsStep (entry : Answered) (old new : State) : Type 0 where
  pub fine : IsEvent entry.event.0
  pub permitted : IsTrue (are_permitted old (entry.event ∷ []))
  pub state_is : new ≡ (step old entry.event.0 entry.event.1).state
  pub reply_is : entry.reply ≡ (step old entry.event.0 entry.event.1).reply

-- a session gets a frame, and this reply
abbrev pub answering : (session : ℕ) (frame : List ℕ) (clock : ℕ) → Bool → (reply : List ℕ)
    → Answered
answering session frame clock refused reply =
    record { event = (Message session frame clock, refused); reply = reply }

-- a session is closed
abbrev pub closing : (session clock : ℕ) → Answered
closing session clock = record { event = (Close session clock, false); reply = [] }

-- what a turn is to do
pub data Phase : Type 0 where
  Over : Phase
  Sending : Phase
  Answering : (size : ℕ) → Phase
  Ending : Phase
  Receiving : Phase

-- by what is at the front of the buffer
abbrev pub phase_by : Frame → Phase
phase_by Need = Receiving
phase_by (Whole size) = Answering size
phase_by Broken = Ending

-- the first that fits: it is closed; a reply is pending; a whole frame is there; a size is there
-- that no frame has; else it reads
abbrev pub phase_of : Link → Phase
phase_of link =
    if link.closed then Over
    else (if nat_eq (length link.pending) 0 then phase_by (first_frame link.buffer) else Sending)

-- nothing happens
pub record IsIdle (old new : Scene) (deeds : Deeds) : Type 0 where
  pub scene_is : new ≡ old
  pub deeds_are : deeds ≡ no_deeds

-- a front of what is pending is written, and is pending no more
pub record Sends (old new : Scene) (deeds : Deeds) : Type 0 where
  pub some : 0 < length deeds.written
  pub front : old.link.pending ≡ deeds.written ++ new.link.pending
  pub link_is : new.link ≡ record old.link { pending = new.link.pending }
  pub state_is : new.state ≡ old.state
  pub no_read : deeds.read ≡ []
  pub no_entry : deeds.answered ≡ []

-- bytes are read, and are after those in the buffer
pub record Receives (old new : Scene) (deeds : Deeds) : Type 0 where
  pub some : 0 < length deeds.read
  pub link_is : new.link ≡ record old.link { buffer = old.link.buffer ++ deeds.read }
  pub state_is : new.state ≡ old.state
  pub none_written : deeds.written ≡ []
  pub no_entry : deeds.answered ≡ []

-- the frame of this size leaves the buffer, the guard makes the step, and its reply is pending
pub record AnswersFrame (size session clock : ℕ) (old new : Scene) (deeds : Deeds) : Type 0 where
  pub refused : Bool
  pub link_is : new.link
      ≡ record old.link { buffer = drop size old.link.buffer; pending = new.link.pending }
  pub stepped : IsStep
      (answering session (take size old.link.buffer) clock refused new.link.pending) old.state
      new.state
  pub deeds_are : deeds
      ≡ deeds_of (answering session (take size old.link.buffer) clock refused new.link.pending)

-- session and connection are closed
pub record Ends (session clock : ℕ) (old new : Scene) (deeds : Deeds) : Type 0 where
  pub link_is : new.link ≡ record old.link { closed = true }
  pub stepped : IsStep (closing session clock) old.state new.state
  pub deeds_are : deeds ≡ deeds_of (closing session clock)

-- a turn in a phase. A stream that is to be waited for changes nothing; one that fails or moves
-- nothing ends its connection
abbrev pub TurnBy : Phase → (session clock : ℕ) → Scene → Scene → Deeds → Type 0
TurnBy Over session clock old new deeds = IsIdle old new deeds
TurnBy Sending session clock old new deeds =
    Sends old new deeds ⊎ (IsIdle old new deeds ⊎ Ends session clock old new deeds)
TurnBy (Answering size) session clock old new deeds = AnswersFrame size session clock old new deeds
TurnBy Ending session clock old new deeds = Ends session clock old new deeds
TurnBy Receiving session clock old new deeds =
    Receives old new deeds ⊎ (IsIdle old new deeds ⊎ Ends session clock old new deeds)

-- a turn
abbrev pub IsTurn : (session clock : ℕ) → Scene → Scene → Deeds → Type 0
IsTurn session clock old new deeds = TurnBy (phase_of old.link) session clock old new deeds

-- A connection, as its callers see it, and what a turn of it comes to.
use Rattle.std.specs.Prelude.{◌≡◌, ℕ, zero, suc, ◌+◌, ◌⊎◌, Bool, false, true, List, [], Option, Result}
use Rattle.std.specs.Prelude.{Ok, Err, length, nat_lt, if◌then◌else◌}
use Rattle.std.specs.Io.KnownBytes.{Appends, Consumes, Keeps}
use Rattle.std.specs.IoError.{error_kind}
use Rattle.std.specs.declared.io.Error.{Error}
use Rattle.std.specs.declared.io.ErrorKind.{ErrorKind}
use Rattle.std.specs.declared.io.ErrorKind.TheVariants.{Interrupted, WouldBlock}
use Rattle.p9_guard.specs.Guard.{Guarded}
use Rattle.p9_conn.specs.declared.conn.Turn.{Turn}
use Rattle.p9_conn.specs.declared.conn.Turn.TheVariants.{Idle, Moved, Closed}
use Rattle.p9_conn.specs.Turn.{Answering, Deeds, Ending, IsStep, Link, Over, Phase, Receiving}
use Rattle.p9_conn.specs.Turn.{Scene, Sending, TurnBy, answering, closing}

-- its stream, the name of its session, and what is in its buffers
pub record Connection (S : Type 0) : Type 0 where
  pub stream : S
  pub session : ℕ
  pub link : Link

-- one that has read and written nothing
abbrev pub new_connection : {S : Type 0} → S → ℕ → Connection S
new_connection stream session = record {
  stream = stream;
  session = session;
  link = record { buffer = []; pending = []; closed = false };
}

-- a connection beside the state that the guard serves
abbrev pub scene : {S : Type 0} → Connection S → Guarded → Scene
scene conn guard = record { link = conn.link; state = guard.state }

-- bytes were written to a stream, and what is left to read is unchanged
pub record Writes {S : Type 0} (remaining contents : S → Option (List ℕ)) (old new : S)
    (written : List ℕ) : Type 0 where
  pub appended : Appends (contents old) (contents new) written
  pub left : Keeps (remaining old) (remaining new)

-- bytes were read from a stream, and what was written to it is unchanged
pub record Reads {S : Type 0} (remaining contents : S → Option (List ℕ)) (old new : S)
    (read : List ℕ) : Type 0 where
  pub consumed : Consumes (remaining old) (remaining new) read
  pub written : Keeps (contents old) (contents new)

-- what a turn does to its stream: it writes, it reads, or it has nothing to do with it
abbrev pub UsesStream : {S : Type 0} → (remaining contents : S → Option (List ℕ)) → Phase
    → (old new : S) → Deeds → Type 0
UsesStream remaining contents Over old new deeds = new ≡ old
UsesStream remaining contents Sending old new deeds =
    Writes remaining contents old new deeds.written
UsesStream remaining contents (Answering size) old new deeds = new ≡ old
UsesStream remaining contents Ending old new deeds = new ≡ old
UsesStream remaining contents Receiving old new deeds =
    Reads remaining contents old new deeds.read

-- what a turn returns: whether the connection is closed, else whether it did something
abbrev pub turn_of : Deeds → Bool → Turn
turn_of deeds closed =
    if closed then Closed
    else (if nat_lt 0 (length deeds.read + length deeds.written + length deeds.answered) then Moved
    else Idle)

-- a connection has had a turn in this phase; its stream may show what is left to read of it and
-- what was written to it
pub record HasTurned {S : Type 0} (remaining contents : S → Option (List ℕ)) (phase : Phase)
    (clock : ℕ) (old : Connection S) (before : Guarded) (new : Connection S) (after : Guarded)
    (result : Turn) : Type 0 where
  pub deeds : Deeds
  pub turn : TurnBy phase old.session clock (scene old before) (scene new after) deeds
  pub stream : UsesStream remaining contents phase old.stream new.stream deeds
  pub session_is : new.session ≡ old.session
  pub guard_is : after ≡ record before { state = after.state }
  pub result_is : result ≡ turn_of deeds new.link.closed

-- a connection and its session are closed
pub record IsEnded {S : Type 0} (clock : ℕ) (old : Connection S) (before : Guarded)
    (new : Connection S) (after : Guarded) (result : Turn) : Type 0 where
  pub conn_is : new ≡ record old { link = record old.link { closed = true } }
  pub stepped : IsStep (closing old.session clock) before.state after.state
  pub guard_is : after ≡ record before { state = after.state }
  pub result_is : result ≡ Closed

-- a frame of a session was answered, with some mark, and this is the reply
pub record FrameIsAnswered (session : ℕ) (frame : List ℕ) (clock : ℕ) (before after : Guarded)
    (reply : List ℕ) : Type 0 where
  pub refused : Bool
  pub stepped : IsStep (answering session frame clock refused reply) before.state after.state
  pub guard_is : after ≡ record before { state = after.state }

-- an error says that the stream is to be waited for
abbrev pub IsToWait : ErrorKind → Type 0
IsToWait kind = (kind ≡ WouldBlock) ⊎ (kind ≡ Interrupted)

-- nothing is changed, and this is returned
pub record IsUnchanged {S : Type 0} (turn : Turn) (old : Connection S) (before : Guarded)
    (new : Connection S) (after : Guarded) (result : Turn) : Type 0 where
  pub conn_is : new ≡ old
  pub guard_is : after ≡ before
  pub result_is : result ≡ turn

-- what a call of the stream comes to: bytes moved; none did, and the connection ends; it is to be
-- waited for, or failed otherwise, and the connection ends
abbrev pub ComesTo : {S : Type 0} → Result ℕ Error → (clock : ℕ) (old : Connection S)
    (before : Guarded) (new : Connection S) (after : Guarded) → Turn → Type 0
ComesTo (Ok zero) clock old before new after result = IsEnded clock old before new after result
ComesTo (Ok (suc n)) clock old before new after result = IsUnchanged Moved old before new after result
ComesTo (Err error) clock old before new after result =
    (IsToWait (error_kind error) × IsUnchanged Idle old before new after result)
    ⊎ ((IsToWait (error_kind error) → ⊥) × IsEnded clock old before new after result)

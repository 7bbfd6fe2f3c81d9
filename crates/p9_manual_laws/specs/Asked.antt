-- What a message makes of a state, where no allocation fails.
use Rattle.std.specs.Prelude.{◌≡◌, ℕ, ◌≤◌, true, false, List, Option, None, Some, length}
use Rattle.std.specs.Option.{option_map_or}
use Rattle.p9_wire.specs.Frame.{msize_max}
use Rattle.p9_wire.specs.Message.{RMessage, TMessage}
use Rattle.p9_wire.specs.Spelling.{RSpells, TSpells}
use Rattle.p9_wire.specs.Reply.{r_spelling}
use Rattle.p9_fids.specs.Fid.{Fid, fid_at}
use Rattle.p9_step.specs.Answer.{Outcome, outcome_of}
use Rattle.p9_step.specs.ForestChange.{all_applied}
use Rattle.p9_step.specs.Event.{Message}
use Rattle.p9_step.specs.Request.{is_version}
use Rattle.p9_step.specs.Sound.{IsState}
use Rattle.p9_step.specs.State.{Session, State, changed_session, session_at}
use Rattle.p9_step.specs.Step.{message_answer, step}

-- the state after a message, and the reply to it, if its session is open
pub record Asked : Type 0 where
  pub state : State
  pub reply : Option RMessage

-- the outcome of a message takes its place in the state
abbrev pub after_outcome : State → ℕ → Outcome → Asked
after_outcome state name outcome = record {
  state = record state {
    forest = all_applied outcome.changes state.forest;
    sessions = changed_session name outcome.session state.sessions;
  };
  reply = Some outcome.reply;
}

-- a message of an open session
abbrev pub asked_in : State → (name clock : ℕ) → TMessage → Session → Asked
asked_in state name clock m session =
    after_outcome state name
    (outcome_of session
    (message_answer state.setting state.forest state.sessions session clock m))

-- a message of the session of the name, at a reading of the clock
abbrev pub asked : State → (name clock : ℕ) → TMessage → Asked
asked state name clock m =
    option_map_or (asked_in state name clock m) (session_at name state.sessions)
    (record { state = state; reply = None })

-- the session of the name is open, and the frame spells the message with the tag; the frame is no
-- longer than the greatest one, nor than the session's msize; while no version is set, the message
-- is a version
pub record IsSent (state : State) (name : ℕ) (frame : List ℕ) (tag : ℕ) (m : TMessage)
    : Type 0 where
  pub session : Session
  pub is_open : session_at name state.sessions ≡ Some session
  pub spelled : TSpells frame tag m
  pub small : length frame ≤ msize_max
  pub short : (msize : ℕ) → session.msize ≡ Some msize → length frame ≤ msize
  pub allowed : session.msize ≡ None → is_version m ≡ true

-- the step of a frame is what the message makes of the state, and its bytes are the reply with the
-- tag; in a state that the exporter can come to, they spell it by the grammar
pub record IsAskedBy (state : State) (name : ℕ) (frame : List ℕ) (clock tag : ℕ) (m : TMessage)
    : Type 0 where
  pub reply : RMessage
  pub reply_is : (asked state name clock m).reply ≡ Some reply
  pub state_is : (step state (Message name frame clock) false).state ≡ (asked state name clock m).state
  pub bytes_are : (step state (Message name frame clock) false).reply ≡ r_spelling tag reply
  pub spelled : IsState state → RSpells (step state (Message name frame clock) false).reply tag reply

-- a frame of an open session is answered as the message that it spells, with the same tag
abbrev pub FrameIsAsked : Type 0
FrameIsAsked =
    (state : State) (name : ℕ) (frame : List ℕ) (clock tag : ℕ) (m : TMessage)
    → IsSent state name frame tag m → IsAskedBy state name frame clock tag m

-- the session of the name is open, and has the fid
pub record Has (state : State) (name : ℕ) (session : Session) (fid : ℕ) (v : Fid) : Type 0 where
  pub session_is : session_at name state.sessions ≡ Some session
  pub fid_is : fid_at fid session.fids ≡ Some v

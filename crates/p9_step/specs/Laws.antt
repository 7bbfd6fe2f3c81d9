-- What the laws of steps, of replies and of runs say.
use Rattle.std.specs.Prelude.{◌≡◌, ℕ, ◌+◌, ◌≤◌, ◌++◌, Bool, List, Some, Result, Ok, IsTrue}
use Rattle.std.specs.Prelude.{length, unwrap_or}
use Rattle.std.specs.List.{AllByRecursion}
use Rattle.p9_base.specs.declared.fault.Fault.{Fault}
use Rattle.p9_base.specs.declared.fault.Fault.TheVariants.{OutOfMemory}
use Rattle.p9_base.specs.Fault.{fault_text_max, text_of}
use Rattle.p9_wire.specs.Frame.{header, is_frame}
use Rattle.p9_wire.specs.Frame.{IsBytes}
use Rattle.p9_wire.specs.Message.{RMessage, Rerror, TMessage, Tremove}
use Rattle.p9_wire.specs.Spelling.{RSpells}
use Rattle.p9_step.specs.State.{Session, State, changed_session, session_at}
use Rattle.p9_step.specs.Clunk.{without}
use Rattle.p9_step.specs.Event.{Event, IsEvent, Message}
use Rattle.p9_step.specs.Sound.{IsState}
use Rattle.p9_step.specs.Request.{request_of, tag_of}
use Rattle.p9_step.specs.Step.{Marked, Stepped, run, runs_out, step}

-- a step of a state that the exporter can come to leads to such a state, with every mark
abbrev pub StepKeepsState : Type 0
StepKeepsState =
    (state : State) (event : Event) (refused : Bool) → IsState state → IsEvent event
    → IsState (step state event refused).state

-- and so does a run
abbrev pub RunKeepsState : Type 0
RunKeepsState =
    (state : State) (events : List Marked) → IsState state
    → AllByRecursion (λ event. IsEvent event.0) events → IsState (run state events).state

-- a run of events that are followed by others is the run of both
pub record IsRunOfBoth (state : State) (events others : List Marked) : Type 0 where
  pub state_is : (run state (events ++ others)).state
      ≡ (run (run state events).state others).state
  pub replies_are : (run state (events ++ others)).replies
      ≡ (run state events).replies ++ (run (run state events).state others).replies

abbrev pub RunGoesOn : Type 0
RunGoesOn = (state : State) (events others : List Marked) → IsRunOfBoth state events others

-- the most bytes of a refusal: its header, the length of its text, and the text
abbrev pub refusal_max : ℕ
refusal_max = header + 2 + fault_text_max

-- the most bytes that a reply has: the session's msize; before a version those of a refusal
abbrev pub reply_max : Session → ℕ
reply_max session = unwrap_or session.msize refusal_max

-- the state without one fid of a session
abbrev pub without_fid_of : (name : ℕ) → Session → (fid : ℕ) → State → State
without_fid_of name session fid state =
    record state { sessions = changed_session name (without fid session) state.sessions }

-- the state after a refusal: it is unchanged, but a fid ends with a remove, also with a refused one
abbrev pub after_refusal : State → ℕ → Session → Result TMessage Fault → State
after_refusal state name session (Ok (Tremove fid)) = without_fid_of name session fid state
after_refusal state name session request = state

-- the text of one of the thirty faults
abbrev pub IsFaultText : List ℕ → Type 0
IsFaultText ename = (fault : Fault) × (ename ≡ text_of fault)

-- the reply to a frame of a session: the bytes spell it with the frame's tag, and are no more than
-- the session takes; if it is an error, it is one of the faults, and the state is that after a
-- refusal; it is 'out of memory' only where memory ran out
pub record IsAnswered (state : State) (name : ℕ) (session : Session) (frame : List ℕ)
    (out : Bool) (after : Stepped) (reply : RMessage) : Type 0 where
  pub spelled : RSpells after.reply (tag_of frame) reply
  pub short : length after.reply ≤ reply_max session
  pub refusal : (ename : List ℕ) → reply ≡ Rerror ename
      → IsFaultText ename
      × (after.state ≡ after_refusal state name session (request_of session frame))
  pub memory : reply ≡ Rerror (text_of OutOfMemory) → IsTrue out

-- every frame of a session that is open gets one reply
abbrev pub EveryFrameIsAnswered : Type 0
EveryFrameIsAnswered =
    (state : State) (name : ℕ) (session : Session) (frame : List ℕ) (clock : ℕ) (refused : Bool)
    → IsState state → session_at name state.sessions ≡ Some session → IsTrue (is_frame frame)
    → IsBytes frame
    → (reply : RMessage)
    × IsAnswered state name session frame (runs_out state session frame clock refused)
    (step state (Message name frame clock) refused) reply

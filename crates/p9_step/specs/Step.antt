-- A step: what one event makes of a state, and the bytes that answer it.
use Rattle.std.specs.Prelude.{ℕ, ◌&&◌, ◌||◌, Bool, List, [], ◌∷◌}
use Rattle.std.specs.Prelude.{Ok, Err, is_some, if◌then◌else◌}
use Rattle.std.specs.Option.{option_map_or}
use Rattle.p9_base.specs.declared.fault.Fault.TheVariants.{NoAuthentication}
use Rattle.p9_base.specs.Results.{and_then}
use Rattle.p9_tree.specs.Server.{Server}
use Rattle.p9_wire.specs.Message.{TMessage, Tversion, Tauth, Tattach, Tflush, Twalk, Topen, Tcreate}
use Rattle.p9_wire.specs.Message.{Tread, Twrite, Tclunk, Tremove, Tstat, Twstat, Rflush}
use Rattle.p9_wire.specs.Reply.{r_spelling}
use Rattle.p9_step.specs.State.{Setting, Session, SessionRow, State, changed_session, fresh}
use Rattle.p9_step.specs.State.{session_at, with_session, without_session}
use Rattle.p9_step.specs.ForestChange.{all_applied}
use Rattle.p9_step.specs.Answer.{Answer, Outcome, outcome_of}
use Rattle.p9_step.specs.End.{on_ends}
use Rattle.p9_step.specs.Version.{version_answer}
use Rattle.p9_step.specs.Attach.{attach_answer}
use Rattle.p9_step.specs.Walk.{walk_answer}
use Rattle.p9_step.specs.Open.{open_answer}
use Rattle.p9_step.specs.Create.{create_answer}
use Rattle.p9_step.specs.Read.{read_answer}
use Rattle.p9_step.specs.Write.{write_answer}
use Rattle.p9_step.specs.Clunk.{clunk_answer}
use Rattle.p9_step.specs.Remove.{remove_answer}
use Rattle.p9_step.specs.Stat.{stat_answer}
use Rattle.p9_step.specs.Wstat.{wstat_answer}
use Rattle.p9_step.specs.Request.{request_of, tag_of}
use Rattle.p9_step.specs.Memory.{no_memory_reply, frame_may_fail}
use Rattle.p9_wire.specs.Frame.{is_frame}
use Rattle.p9_step.specs.Event.{Event, Open, Message, Close}

-- each message, in the manual's order
abbrev pub message_answer : Setting → List Server → List SessionRow → Session → ℕ → TMessage
    → Answer
message_answer setting forest sessions session clock (Tversion msize version) =
    version_answer setting forest session clock msize version
message_answer setting forest sessions session clock (Tauth afid uname aname) = Err NoAuthentication
message_answer setting forest sessions session clock (Tattach fid afid uname aname) =
    attach_answer setting forest session fid afid uname aname
message_answer setting forest sessions session clock (Tflush oldtag) =
    Ok (record { changes = []; session = session; reply = Rflush })
message_answer setting forest sessions session clock (Twalk fid newfid names) =
    walk_answer setting forest session fid newfid names
message_answer setting forest sessions session clock (Topen fid mode) =
    open_answer setting forest sessions session clock fid mode
message_answer setting forest sessions session clock (Tcreate fid name perm mode) =
    create_answer setting forest session clock fid name perm mode
message_answer setting forest sessions session clock (Tread fid offset count) =
    read_answer setting forest session clock fid offset count
message_answer setting forest sessions session clock (Twrite fid offset bytes) =
    write_answer setting forest session clock fid offset bytes
message_answer setting forest sessions session clock (Tclunk fid) =
    clunk_answer setting forest session clock fid
message_answer setting forest sessions session clock (Tremove fid) =
    remove_answer setting forest session clock fid
message_answer setting forest sessions session clock (Tstat fid) = stat_answer setting forest session fid
message_answer setting forest sessions session clock (Twstat fid stat) =
    wstat_answer setting forest session clock fid stat

-- the same of a frame, which may have no request
abbrev pub frame_answer : Setting → List Server → List SessionRow → Session → ℕ → List ℕ → Answer
frame_answer setting forest sessions session clock frame =
    and_then (request_of session frame) (message_answer setting forest sessions session clock)

-- an allocation failed in a request of a session that may be answered so
abbrev pub runs_out : State → Session → List ℕ → ℕ → Bool → Bool
runs_out state session frame clock refused =
    refused
    && frame_may_fail frame
    (frame_answer state.setting state.forest state.sessions session clock frame)

-- the state after an event, and the bytes that answer it
pub record Stepped : Type 0 where
  pub state : State
  pub reply : List ℕ

-- an event that doesn't fit changes nothing and gives no bytes
abbrev pub unchanged : State → Stepped
unchanged state = record { state = state; reply = [] }

-- the outcome of a request takes its place in the state, and its reply is spelled
abbrev pub with_outcome : State → ℕ → List ℕ → Outcome → Stepped
with_outcome state name frame outcome = record {
  state = record state {
    forest = all_applied outcome.changes state.forest;
    sessions = changed_session name outcome.session state.sessions;
  };
  reply = r_spelling (tag_of frame) outcome.reply;
}

-- the same of an answer; where an allocation failed and that may be answered, nothing changes
abbrev pub answered : State → ℕ → Session → List ℕ → Bool → Answer → Stepped
answered state name session frame refused answer =
    if refused && frame_may_fail frame answer
    then record { state = state; reply = no_memory_reply frame }
    else with_outcome state name frame (outcome_of session answer)

-- a session ends, and its fids by rising number
abbrev pub closed : State → (name clock : ℕ) → Session → Stepped
closed state name clock session = record {
  state = record state {
    forest = all_applied (on_ends state.setting.table clock state.forest session.fids) state.forest;
    sessions = without_session name state.sessions;
  };
  reply = [];
}

-- refused says that an allocation failed, and counts only where that may be answered
abbrev pub step : State → Event → Bool → Stepped
step state (Open name) refused =
    if refused || is_some (session_at name state.sessions) then unchanged state
    else record {
      state = record state { sessions = with_session name fresh state.sessions };
      reply = [];
    }
step state (Message name frame clock) refused =
    if is_frame frame
    then option_map_or
    (λ session. answered state name session frame refused
    (frame_answer state.setting state.forest state.sessions session clock frame))
    (session_at name state.sessions) (unchanged state)
    else unchanged state
step state (Close name clock) refused =
    option_map_or (closed state name clock) (session_at name state.sessions) (unchanged state)

-- an event, and its mark: whether an allocation failed
abbrev pub Marked : Type 0
Marked = Event × Bool

-- the state after events, and the bytes that answer each of them
pub record Ran : Type 0 where
  pub state : State
  pub replies : List (List ℕ)

-- one event after another
abbrev pub run : State → List Marked → Ran
run state [] = record { state = state; replies = [] }
run state (event ∷ events) =
    let first = step state event.0 event.1 in
    let others = run first.state events in
    record { state = others.state; replies = first.reply ∷ others.replies }

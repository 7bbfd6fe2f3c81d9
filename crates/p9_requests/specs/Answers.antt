-- What a function has to do that answers a frame of one session among all, and the reply to it.
use Rattle.std.specs.Prelude.{◌≡◌, ℕ, ◌+◌, ◌≤◌, Bool, List, Result, Ok, Err}
use Rattle.std.specs.Option.{option_map_or}
use Rattle.p9_base.specs.declared.fault.Fault.{Fault}
use Rattle.p9_base.specs.declared.fault.Fault.TheVariants.{PhaseError}
use Rattle.p9_base.specs.declared.qid.Qid.{Qid}
use Rattle.p9_base.specs.Fault.{text_of}
use Rattle.p9_tree.specs.Server.{Server}
use Rattle.p9_wire.specs.Frame.{msize_max}
use Rattle.p9_wire.specs.Message.{RMessage, Rcreate, Rerror, Ropen, TMessage, r_view, t_view}
use Rattle.p9_wire.specs.Spelling.{read_header}
use Rattle.p9_wire.specs.declared.message.TMsg.{TMsg}
use Rattle.p9_requests.specs.declared.reply.Reply.{Reply}
use Rattle.p9_requests.specs.declared.reply.Reply.TheVariants.{Message, Data, StatOf}
use Rattle.p9_step.specs.State.{Setting, Session, SessionRow, changed_session, fresh, session_at}
use Rattle.p9_step.specs.ForestChange.{all_applied}
use Rattle.p9_step.specs.Answer.{Answer}
use Rattle.p9_step.specs.Step.{frame_answer}
use Rattle.p9_walks.specs.Answers.{IsRefusal, ReplyFits, changes_of, data_reply, stat_reply}

-- the session after an answer that is no refusal
abbrev pub session_of : Answer → Session
session_of (Ok outcome) = outcome.session
session_of (Err fault) = fresh

-- the same of the session of this name among all sessions
abbrev pub AnswersAmong : (name : ℕ) → Answer → (may_fail : Bool) (forest forest' : List Server)
    (old new : List SessionRow) → Result RMessage Fault → Type 0
AnswersAmong name answer may_fail forest forest' old new (Ok reply) =
    (answer
    ≡ Ok (record { changes = changes_of answer; session = session_of answer; reply = reply }))
    × (forest' ≡ all_applied (changes_of answer) forest)
    × (new ≡ changed_session name (session_of answer) old)
AnswersAmong name answer may_fail forest forest' old new (Err fault) =
    IsRefusal answer may_fail fault × (forest' ≡ forest) × (new ≡ old)

-- what is told of a file that was opened: its qid, and the iounit
abbrev pub open_reply : Qid × ℕ → RMessage
open_reply r = Ropen r.0 r.1

-- the same of a file that was made
abbrev pub create_reply : Qid × ℕ → RMessage
create_reply r = Rcreate r.0 r.1

-- the reply that is made of what is in the forest, and of the data
abbrev pub reply_view : List Server → List ℕ → Reply → RMessage
reply_view forest bytes (Message m) = r_view m
reply_view forest bytes (Data count) = data_reply bytes count
reply_view forest bytes (StatOf at) = stat_reply forest at

-- the message of a result
abbrev pub message_of : Result RMessage Fault → RMessage
message_of (Ok reply) = reply
message_of (Err fault) = Rerror (text_of fault)

-- the request of a frame, or why it has none
abbrev pub request_view : Result TMsg Fault → Result TMessage Fault
request_view (Ok request) = Ok (t_view request)
request_view (Err fault) = Err fault

-- the answer to a frame of the session of this name
abbrev pub frame_among : Setting → List Server → List SessionRow → (name clock : ℕ) (frame : List ℕ)
    → Answer
frame_among setting forest sessions name clock frame =
    option_map_or (λ session. frame_answer setting forest sessions session clock frame)
    (session_at name sessions) (Err PhaseError)

-- a reply that can be written: its message has a spelling that is no longer than a frame, its data
-- are no more than a frame holds
abbrev pub CanWrite : Result Reply Fault → Type 0
CanWrite (Ok (Message m)) = ReplyFits (r_view m)
CanWrite (Ok (Data count)) = read_header + count ≤ msize_max
CanWrite (Ok (StatOf at)) = Unit {0}
CanWrite (Err fault) = Unit {0}

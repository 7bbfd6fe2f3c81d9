-- There is room for each reply.
use Rattle.std.proofs.Common.{◌≡◌, ◌≤◌, ◌+◌, ◌-◌, ℕ, List, Option, Some, None, IfSome, IsSome, Result, Ok}
use Rattle.std.proofs.Common.{Err, true, false, length, refl, subst, sym, arith}
use Rattle.std.specs.Prelude.{unwrap_or}
use Rattle.std.specs.Option.{option_map}
use Rattle.p9_base.specs.declared.fault.Fault.{Fault}
use Rattle.p9_tree.specs.Server.{Server}
use Rattle.p9_wire.specs.Frame.{is_frame, msize_max}
use Rattle.p9_wire.specs.Frame.{IsBytes}
use Rattle.p9_wire.specs.Message.{RMessage, r_view}
use Rattle.p9_wire.specs.Spelling.{r_len}
use Rattle.p9_wire.specs.Reply.{r_spelling}
use Rattle.p9_step.specs.Laws.{refusal_max, reply_max}
use Rattle.p9_step.specs.Memory.{is_no_memory_reply, frame_may_fail}
use Rattle.p9_step.specs.Request.{tag_of}
use Rattle.p9_step.specs.Sound.{IsMsize, IsSession, IsState}
use Rattle.p9_step.specs.State.{Session, SessionRow, Setting, State, iounit_of, session_at}
use Rattle.p9_step.proofs.Answering.{every-frame-is-answered, length-spelling}
use Rattle.p9_step.proofs.Sounds.{session-served}
use Rattle.p9_requests.specs.declared.reply.Reply.{Reply}
use Rattle.p9_requests.specs.declared.reply.Reply.TheVariants.{Message, Data, StatOf}
use Rattle.p9_walks.specs.Answers.{replied}
use Rattle.p9_requests.specs.Answers.{AnswersAmong, frame_among, message_of, reply_view}
use Rattle.p9_walks.specs.Answers.{stat_reply}
use Rattle.p9_requests.specs.Room.{IsDataWithin, IsRoom}
use Rattle.p9_requests.proofs.Rooms.{data-room}
use Rattle.p9_export.proofs.Steps.{among-makes}

-- a session that is open needs no more room than the greatest frame
small-msize : (msize : Option ℕ) → IsMsize msize → unwrap_or msize refusal_max ≤ msize_max
small-msize None is = omega arith
small-msize (Some m) is = let high = is.1 in omega arith

pub small-room : (setting : Setting) (forest : List Server) (found : Option Session)
    (session : Session) → found ≡ Some session → IfSome found (IsSession setting forest)
    → reply_max session ≤ msize_max
small-room setting forest found session there its =
    let it : IsSession setting forest session = rw there at its in
    small-msize session.msize it.msize

-- the room of a session that may be open
pub if-open : (session : Option Session) (room : ℕ)
    → unwrap_or (option_map reply_max session) 0 ≤ room → IfSome session (λ s. reply_max s ≤ room)
if-open None room enough = tt
if-open (Some session) room enough = enough

module _ (old : State) (name now : ℕ) (session : Session) (frame : List ℕ) (room : ℕ)
    (its : IsState old) (there : session_at name old.sessions ≡ Some session)
    (bytes : IsBytes frame) (whole : is_frame frame ≡ true)
    (enough : reply_max session ≤ room) where
  -- of a message that answers the frame
  message-room : (forest : List Server) (rows : List SessionRow) (result : Result RMessage Fault) →
      AnswersAmong name (frame_among old.setting old.forest old.sessions name now frame)
      (frame_may_fail frame (frame_among old.setting old.forest old.sessions name now frame))
      old.forest forest old.sessions rows result →
      7 + r_len (message_of result) ≤ room
  message-room forest rows result did =
      let live : IsSome (session_at name old.sessions) = rw there refl in
      let spelled = r_spelling (tag_of frame) (message_of result) in
      let made =
      among-makes old name now forest rows frame spelled result live whole did refl in
      let answered =
      every-frame-is-answered old name session frame now (is_no_memory_reply frame spelled) its
      there whole bytes in
      let short : length spelled ≤ reply_max session =
      subst (λ (zs : List ℕ). length zs ≤ reply_max session) (sym made.bytes_are)
      answered.1.short in
      let long : length spelled ≡ 7 + r_len (message_of result) =
      length-spelling (tag_of frame) (message_of result) in
      omega (arith, short, long, enough)

  -- of every reply
  reply-room : (forest : List Server) (rows : List SessionRow) (buffer : List ℕ)
      (result : Result Reply Fault) → IsMsize session.msize
      → IsDataWithin (iounit_of session) result →
      AnswersAmong name (frame_among old.setting old.forest old.sessions name now frame)
      (frame_may_fail frame (frame_among old.setting old.forest old.sessions name now frame))
      old.forest forest old.sessions rows (replied (reply_view forest buffer) result) →
      IsRoom forest room result
  reply-room forest rows buffer (Ok (Message m)) msize within did =
      message-room forest rows (Ok (r_view m)) did
  reply-room forest rows buffer (Ok (Data count)) msize within did =
      let most = data-room session msize in omega (arith, within, most, enough)
  reply-room forest rows buffer (Ok (StatOf at)) msize within did =
      message-room forest rows (Ok (stat_reply forest at)) did
  reply-room forest rows buffer (Err fault) msize within did =
      message-room forest rows (Err fault) did

-- the same of the session of this name, which is open
pub among-room : (old : State) (name now : ℕ) (frame : List ℕ) (room : ℕ) (forest : List Server)
    (rows : List SessionRow) (buffer : List ℕ) (result : Result Reply Fault) → IsState old
    → IsBytes frame → is_frame frame ≡ true → IsSome (session_at name old.sessions)
    → IfSome (session_at name old.sessions) (λ s. reply_max s ≤ room)
    → IfSome (session_at name old.sessions) (λ s. IsDataWithin (iounit_of s) result) →
    AnswersAmong name (frame_among old.setting old.forest old.sessions name now frame)
    (frame_may_fail frame (frame_among old.setting old.forest old.sessions name now frame))
    old.forest forest old.sessions rows (replied (reply_view forest buffer) result) →
    IsRoom forest room result
among-room old name now frame room forest rows buffer result its bytes whole live enough within did =
    go (session_at name old.sessions) refl
  where
    go : (o : Option Session) → session_at name old.sessions ≡ o → IsRoom forest room result
    go None e = let no : false ≡ true = rw e at live in absurd (cc)
    go (Some session) e =
        let msize : IsMsize session.msize =
        (session-served old.setting old.forest old.sessions its.forest its.served name session
        e).msize in
        reply-room old name now session frame room its e bytes whole (rw e at enough) forest rows
        buffer result msize (rw e at within) did

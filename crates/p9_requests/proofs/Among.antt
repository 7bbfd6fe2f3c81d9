-- The answer to a frame of one session, among all sessions.
use Rattle.std.proofs.Common.{◌≡◌, ℕ, ◌+◌, ◌≤◌, Bool, List, inl, Option, Some, None, Result, Ok}
use Rattle.std.proofs.Common.{Err, refl, sym, ap, ◌∙◌, arith}
use Rattle.std.specs.Ordering.{nat_cmp}
use Rattle.std.specs.BTreeMap.{is_at}
use Rattle.p9_base.specs.declared.fault.Fault.{Fault}
use Rattle.p9_tree.specs.Server.{Server}
use Rattle.p9_wire.specs.Frame.{msize_max}
use Rattle.p9_wire.specs.Message.{RMessage, TMessage}
use Rattle.p9_step.specs.State.{Setting, Session, SessionRow, changed_session, io_header, iounit_of}
use Rattle.p9_step.specs.State.{session_at}
use Rattle.p9_step.specs.Answer.{Answer}
use Rattle.p9_walks.specs.Answers.{Answers, changes_of}
use Rattle.p9_requests.specs.Answers.{AnswersAmong, frame_among, session_of}
use Rattle.p9_requests.specs.Taken.{wants_taken_file}
use Rattle.p9_step.specs.Sound.{IsMsize}
use Rattle.p9_step.specs.Request.{request_of}
use Rattle.p9_step.specs.Memory.{may_run_out, frame_may_fail}
use Rattle.p9_step.specs.Step.{message_answer}
use Rattle.p9_base.proofs.Rows.{set_value-same}
use Rattle.p9_step.proofs.Requests.{frame_may_fail-is}

-- what a read of a session may carry is less than a frame
pub iounit_of-small : (session : Session) → IsMsize session.msize → io_header + iounit_of session ≤ msize_max
iounit_of-small session is = go session.msize refl is
  where
    go : (o : Option ℕ) → session.msize ≡ o → IsMsize o → io_header + iounit_of session ≤ msize_max
    go None e small = rw e (omega arith)
    go (Some msize) e small = let low = small.0 in let high = small.1 in rw e (omega arith)

-- the session's answer is that among all
among : (name : ℕ) (answer : Answer) (may : Bool) (forest forest' : List Server)
    (rows rows' : List SessionRow) (session new : Session) (result : Result RMessage Fault) →
    session_at name rows ≡ Some session → rows' ≡ changed_session name new rows
    → Answers answer may forest forest' session new result
    → AnswersAmong name answer may forest forest' rows rows' result
among name answer may forest forest' rows rows' session new (Ok reply) there rows_are did =
    let its : session_of answer ≡ new = ap session_of did.0 in (
      did.0
          ∙ ap (λ s. Ok (record { changes = changes_of answer; session = s; reply = reply }))
          (sym its),
      did.1,
      rows_are ∙ ap (λ s. changed_session name s rows) (sym its),
    )
among name answer may forest forest' rows rows' session new (Err fault) there rows_are did = (
  did.0,
  did.1,
  rows_are ∙ ap (λ s. changed_session name s rows) did.2
      ∙ set_value-same (is_at (nat_cmp name)) rows session there,
)

-- a frame with a request is answered as the request is
pub among-request : (setting : Setting) (forest forest' : List Server)
    (rows rows' : List SessionRow) (name now : ℕ) (session other new : Session) (frame : List ℕ)
    (m : TMessage) (taken : Bool) (result : Result RMessage Fault) →
    session_at name rows ≡ Some session → session_at name rows ≡ Some other
    → Ok m ≡ request_of session frame → taken ≡ wants_taken_file setting forest rows session m →
    rows' ≡ changed_session name new rows →
    (wants_taken_file setting forest rows other m ≡ taken
    → Answers (message_answer setting forest rows other now m)
    (may_run_out m (message_answer setting forest rows other now m)) forest forest' other new
    result) →
    AnswersAmong name (frame_among setting forest rows name now frame)
    (frame_may_fail frame (frame_among setting forest rows name now frame)) forest forest' rows
    rows'
    result
among-request setting forest forest' rows rows' name now session other new frame m taken result
    there again is takes rows_are did =
    let both : Some session ≡ Some other = sym there ∙ again in
    let same : other ≡ session = cc in
    let a = message_answer setting forest rows session now m in
    let its : Answers a (may_run_out m a) forest forest' session new result =
    rw same at (did (ap (λ s. wants_taken_file setting forest rows s m) same ∙ sym takes)) in
    let answer : frame_among setting forest rows name now frame ≡ a = rw (there, sym is) refl in
    let may : frame_may_fail frame a ≡ may_run_out m a =
    frame_may_fail-is session frame m a (sym is) in
    rw (answer, may)
    (among name a (may_run_out m a) forest forest' rows rows' session new result there rows_are
    its)

-- a frame without a request is refused
pub among-none : (setting : Setting) (forest : List Server) (rows : List SessionRow) (name now : ℕ)
    (session : Session) (frame : List ℕ) (fault : Fault) →
    session_at name rows ≡ Some session → Err fault ≡ request_of session frame →
    AnswersAmong name (frame_among setting forest rows name now frame)
    (frame_may_fail frame (frame_among setting forest rows name now frame)) forest forest rows rows
    (Err fault)
among-none setting forest rows name now session frame fault there is =
    (inl (rw (there, sym is) refl), refl, refl)

-- The machine keeps what is kept of every state.
use Rattle.std.proofs.Common.{Bool, Err, IfSome, IsSome, List, None, Ok, Option, Result, Some}
use Rattle.std.proofs.Common.{arith, false, length, refl, subst, sym, take, true, ℕ, ◌<◌, ◌^◌, ◌≡◌}
use Rattle.std.proofs.Common.{◌≤◌}
use Rattle.std.proofs.lemmas.List.{length-take-le}
use Rattle.p9_base.specs.declared.fault.Fault.{Fault}
use Rattle.p9_tree.specs.Forest.{IsForest}
use Rattle.p9_tree.specs.Server.{Server}
use Rattle.p9_wire.specs.Frame.{is_frame}
use Rattle.p9_wire.specs.Frame.{IsBytes}
use Rattle.p9_wire.specs.Message.{RMessage}
use Rattle.p9_step.specs.Event.{Message}
use Rattle.p9_step.specs.Laws.{reply_max}
use Rattle.p9_step.specs.Memory.{frame_may_fail}
use Rattle.p9_step.specs.Sound.{AreWellOpen, IsServed, IsState}
use Rattle.p9_step.specs.State.{Session, SessionRow, Setting, State, session_at}
use Rattle.p9_step.specs.Step.{frame_answer, step}
use Rattle.p9_step.proofs.Answering.{every-frame-is-answered}
use Rattle.p9_step.proofs.Done.{done-is}
use Rattle.p9_step.proofs.Kept.{Kept}
use Rattle.p9_step.proofs.Settled.{fits-of}
use Rattle.p9_step.proofs.Sounds.{kept-frame, ready-served, served-outcome, session-served}
use Rattle.p9_walks.specs.Answers.{changes_of}
use Rattle.p9_requests.specs.Answers.{AnswersAmong, frame_among, session_of}

-- after a frame
pub served-answered : (setting : Setting) (forest forest' : List Server)
    (rows rows' : List SessionRow) (name now : ℕ) (session : Session) (frame : List ℕ)
    (result : Result RMessage Fault) → IsForest forest → IsServed setting forest rows
    → session_at name rows ≡ Some session → IsBytes frame → now < 2 ^ 32 →
    AnswersAmong name (frame_answer setting forest rows session now frame)
    (frame_may_fail frame (frame_answer setting forest rows session now frame)) forest forest' rows
    rows' result →
    IsServed setting forest' rows'
served-answered setting forest forest' rows rows' name now session frame (Ok reply) sound served
    there bytes short did =
    let a = frame_answer setting forest rows session now frame in
    let ready = ready-served setting forest rows sound served name now session there short in
    let done =
    done-is (Kept setting forest) a _ (kept-frame setting forest rows session now frame ready bytes)
    did.0 in
    rw (did.1, did.2) (served-outcome setting forest rows sound served name (record {
      changes = changes_of a;
      session = session_of a;
      reply = reply;
    }) done)
served-answered setting forest forest' rows rows' name now session frame (Err fault) sound served
    there bytes short did = rw (did.1, did.2) served

-- the same of the session of this name, which is open
pub served-among : (setting : Setting) (forest forest' : List Server)
    (rows rows' : List SessionRow) (name now : ℕ) (frame : List ℕ)
    (result : Result RMessage Fault) → IsForest forest → IsServed setting forest rows
    → IsSome (session_at name rows) → IsBytes frame → now < 2 ^ 32 →
    AnswersAmong name (frame_among setting forest rows name now frame)
    (frame_may_fail frame (frame_among setting forest rows name now frame)) forest forest' rows
    rows'
    result →
    IsServed setting forest' rows'
served-among setting forest forest' rows rows' name now frame result sound served live bytes short
    did = go (session_at name rows) refl
  where
    go : (o : Option Session) → session_at name rows ≡ o → IsServed setting forest' rows'
    go None e = let no : false ≡ true = rw e at live in absurd (cc)
    go (Some session) e =
        served-answered setting forest forest' rows rows' name now session frame result sound served
        e bytes short (rw e at did)

-- a session that is open, as a closing finds it
pub found-fits : (setting : Setting) (forest : List Server) (rows : List SessionRow) (name : ℕ)
    (session : Session) → IsForest forest → IsServed setting forest rows
    → session_at name rows ≡ Some session → AreWellOpen setting.table forest session.fids
found-fits setting forest rows name session sound served there =
    fits-of setting forest session.fids
    (session-served setting forest rows sound served name session there).each

-- the reply that the step makes is short
pub reply-short : (state : State) (name now : ℕ) (frame : List ℕ) (size : ℕ) (out : List ℕ)
    (refused : Bool) → IsState state → IsBytes frame → is_frame frame ≡ true → size ≤ length out → take size out ≡ (step state (Message name frame now) refused).reply
    → IfSome (session_at name state.sessions) (λ session. size ≤ reply_max session)
reply-short state name now frame size out refused its bytes whole within is =
    go (session_at name state.sessions) refl
  where
    go : (o : Option Session) → session_at name state.sessions ≡ o
        → IfSome (session_at name state.sessions) (λ session. size ≤ reply_max session)
    go None e = rw e tt
    go (Some session) e =
        let answered =
        every-frame-is-answered state name session frame now refused its e whole bytes in
        let few : length (take size out) ≤ reply_max session =
        subst (λ bytes. length bytes ≤ reply_max session) (sym is) answered.1.short in
        rw e (omega (arith, few, length-take-le size out within))

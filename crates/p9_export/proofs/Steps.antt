-- A request that was answered made the step.
use Rattle.std.proofs.Common.{◌≡◌, ℕ, List, Bool, true, false, Option, Some, None, IsSome}
use Rattle.std.proofs.Common.{Result, Ok, Err, ◌⊎◌, inl, inr, refl, ap, sym, ◌∙◌}
use Rattle.std.specs.Prelude.{◌&&◌}
use Rattle.std.specs.Cmp.Lexicographic.{bytes_decides}
use Rattle.std.proofs.lemmas.Bool.{and_parts}
use Rattle.std.specs.Ordering.{nat_cmp}
use Rattle.std.specs.BTreeMap.{is_at}
use Rattle.p9_base.specs.declared.fault.Fault.{Fault}
use Rattle.p9_base.specs.declared.fault.Fault.TheVariants.{OutOfMemory}
use Rattle.p9_base.specs.Fault.{text_of}
use Rattle.p9_tree.specs.Server.{Server}
use Rattle.p9_wire.specs.Message.{RMessage, Rerror, TMessage}
use Rattle.p9_wire.specs.Reply.{r_spelling}
use Rattle.p9_step.specs.State.{Session, SessionRow, State, changed_session, session_at}
use Rattle.p9_step.specs.ForestChange.{ForestChange, all_applied}
use Rattle.p9_step.specs.Answer.{Answer, is_error}
use Rattle.p9_walks.specs.Answers.{changes_of}
use Rattle.p9_requests.specs.Answers.{AnswersAmong, frame_among, message_of}
use Rattle.p9_requests.specs.Answers.{session_of}
use Rattle.p9_step.specs.Step.{answered, frame_answer}
use Rattle.p9_step.specs.Memory.{is_no_memory_reply, may_run_out, no_memory_reply, frame_may_fail}
use Rattle.p9_step.specs.Step.{message_answer}
use Rattle.p9_step.specs.Request.{request_of, tag_of}
use Rattle.p9_step.specs.Step.{step, Stepped}
use Rattle.p9_wire.specs.Frame.{is_frame}
use Rattle.p9_step.specs.Event.{Message}
use Rattle.p9_step.proofs.Done.{done-is}
use Rattle.p9_step.proofs.Plain.{IsPlainIf, plain-message_answer}
use Rattle.p9_step.proofs.Replies.{not_an_error}
use Rattle.p9_step.proofs.Requests.{frame_may_fail-is}
use Rattle.p9_base.proofs.Rows.{set_value-same}

-- the forest and the sessions afterwards, and the reply
pub record MakesStep (state : State) (forest : List Server) (rows : List SessionRow)
    (bytes : List ℕ) (after : Stepped) : Type 0 where
  pub state_is : record { setting = state.setting; forest = forest; sessions = rows } ≡ after.state
  pub bytes_are : bytes ≡ after.reply

-- a reply where memory may be refused is no refusal
abbrev Plain : Bool → Result RMessage Fault → Type 0
Plain may (Ok reply) = may ≡ true → is_error reply ≡ false
Plain may (Err fault) = Unit {0}

module _ (state : State) (name : ℕ) (forest : List Server) (rows : List SessionRow)
    (session : Session) (frame bytes : List ℕ)
    (there : session_at name state.sessions ≡ Some session) where
  Makes : Bool → Answer → Type 0
  Makes refused answer =
      MakesStep state forest rows bytes (answered state name session frame refused answer)

  -- an outcome
  outcome : (answer : Answer) (changes : List ForestChange) (new : Session) (m : RMessage)
      (refused : Bool) → answer ≡ Ok (record { changes = changes; session = new; reply = m })
      → forest ≡ all_applied changes state.forest → rows ≡ changed_session name new state.sessions
      → (refused && frame_may_fail frame answer) ≡ false → bytes ≡ r_spelling (tag_of frame) m
      → Makes refused answer
  unfolding Makes
  outcome answer changes new m refused is forest_is rows_are unmarked written =
      rw (unmarked, is, forest_is, rows_are) (record { state_is = refl; bytes_are = written })

  -- a failed allocation
  without_memory : (answer : Answer) (refused : Bool) → forest ≡ state.forest
      → rows ≡ state.sessions → refused ≡ true → frame_may_fail frame answer ≡ true
      → bytes ≡ no_memory_reply frame → Makes refused answer
  unfolding Makes
  without_memory answer refused forest_is rows_are marked permitted written =
      rw (marked, permitted, forest_is, rows_are) (record { state_is = refl; bytes_are = written })

  -- a refusal
  refusal : (answer : Answer) (fault : Fault) (refused : Bool) → forest ≡ state.forest
      → rows ≡ state.sessions → answer ≡ Err fault
      → (refused ≡ true → bytes ≡ no_memory_reply frame)
      → bytes ≡ r_spelling (tag_of frame) (Rerror (text_of fault)) → Makes refused answer
  unfolding Makes
  refusal answer fault refused forest_is rows_are is memory written =
      go (refused && frame_may_fail frame answer) refl
    where
      go : (b : Bool) → (refused && frame_may_fail frame answer) ≡ b
          → MakesStep state forest rows bytes (answered state name session frame refused answer)
      go true e =
          let parts = and_parts refused (frame_may_fail frame answer) e in
          rw (e, forest_is, rows_are) (record { state_is = refl; bytes_are = memory parts.0 })
      go false e =
          rw (e, is, forest_is, rows_are) (record {
            state_is =
                ap (λ (r : List SessionRow). record state { sessions = r })
                (sym (set_value-same (is_at (nat_cmp name)) state.sessions session there));
            bytes_are = written;
          })

  -- a reply that is no refusal isn't that of a failed allocation
  unmarked : (answer : Answer) (m : RMessage) → Plain (frame_may_fail frame answer) (Ok m)
      → bytes ≡ r_spelling (tag_of frame) m
      → (is_no_memory_reply frame bytes && frame_may_fail frame answer) ≡ false
  unmarked answer m plain written =
      go (is_no_memory_reply frame bytes && frame_may_fail frame answer) refl
    where
      go : (b : Bool) → (is_no_memory_reply frame bytes && frame_may_fail frame answer) ≡ b
          → (is_no_memory_reply frame bytes && frame_may_fail frame answer) ≡ false
      go false e = e
      go true e =
          let parts = and_parts (is_no_memory_reply frame bytes) (frame_may_fail frame answer) e in
          absurd (not_an_error (tag_of frame) (tag_of frame) m (text_of OutOfMemory) (plain parts.1)
          (sym written ∙ (bytes_decides bytes (no_memory_reply frame)).0 parts.0))

  pub answered-makes : (answer : Answer) (result : Result RMessage Fault)
      → AnswersAmong name answer (frame_may_fail frame answer) state.forest forest state.sessions
      rows
      result → Plain (frame_may_fail frame answer) result
      → bytes ≡ r_spelling (tag_of frame) (message_of result)
      → MakesStep state forest rows bytes
      (answered state name session frame (is_no_memory_reply frame bytes) answer)
  unfolding Makes
  answered-makes answer (Ok m) did plain written =
      outcome answer (changes_of answer) (session_of answer) m (is_no_memory_reply frame bytes)
      did.0 did.1 did.2 (unmarked answer m plain written) written
  answered-makes answer (Err fault) did plain written = by_cause did.0
    where
      by_cause : ((answer ≡ Err fault)
          ⊎ ((fault ≡ OutOfMemory) × (frame_may_fail frame answer ≡ true)))
          → MakesStep state forest rows bytes
          (answered state name session frame (is_no_memory_reply frame bytes) answer)
      by_cause (inl is) =
          refusal answer fault (is_no_memory_reply frame bytes) did.1 did.2 is
          (λ e. (bytes_decides bytes (no_memory_reply frame)).0 e) written
      by_cause (inr memory) =
          let reply : bytes ≡ no_memory_reply frame =
          written ∙ ap (λ f. r_spelling (tag_of frame) (Rerror (text_of f))) memory.0 in
          without_memory answer (is_no_memory_reply frame bytes) did.1 did.2
          ((bytes_decides bytes (no_memory_reply frame)).1 reply) memory.1 reply

module _ (state : State) (name now : ℕ) (forest : List Server) (rows : List SessionRow)
    (session : Session) (frame bytes : List ℕ)
    (there : session_at name state.sessions ≡ Some session) where
  answer : Answer
  answer = frame_answer state.setting state.forest state.sessions session now frame

  -- a reply that is answered where memory may be refused is no refusal
  plain-among : (reply : RMessage) → answer ≡ Ok (record {
    changes = changes_of answer;
    session = session_of answer;
    reply = reply;
  }) → Plain (frame_may_fail frame answer) (Ok reply)
  unfolding answer
  plain-among reply is = by_request (request_of session frame) refl
    where
      by_request : (request : Result TMessage Fault) → request_of session frame ≡ request
          → frame_may_fail frame answer ≡ true → is_error reply ≡ false
      by_request (Err fault) e may =
          let refused : answer ≡ Err fault = rw e refl in
          let no : Err fault ≡ Ok (record {
            changes = changes_of answer;
            session = session_of answer;
            reply = reply;
          }) = sym refused ∙ is in
          absurd (cc)
      by_request (Ok m) e may =
          let a = message_answer state.setting state.forest state.sessions session now m in
          let same : answer ≡ a = rw e refl in
          let its : may_run_out m a ≡ true =
          sym (frame_may_fail-is session frame m a e) ∙ ap (frame_may_fail frame) (sym same)
          ∙ may in
          done-is (IsPlainIf (may_run_out m a)) a _
          (plain-message_answer state.setting state.forest state.sessions session now m)
          (sym same ∙ is) its

  plain-result : (result : Result RMessage Fault)
      → AnswersAmong name answer (frame_may_fail frame answer) state.forest forest state.sessions
      rows
      result → Plain (frame_may_fail frame answer) result
  plain-result (Ok reply) did = plain-among reply did.0
  plain-result (Err fault) did = tt

  pub frame-makes : (result : Result RMessage Fault) → is_frame frame ≡ true →
      AnswersAmong name (frame_answer state.setting state.forest state.sessions session now frame)
      (frame_may_fail frame
      (frame_answer state.setting state.forest state.sessions session now frame))
      state.forest forest state.sessions rows result →
      bytes ≡ r_spelling (tag_of frame) (message_of result) →
      MakesStep state forest rows bytes
      (step state (Message name frame now) (is_no_memory_reply frame bytes))
  unfolding answer
  frame-makes result whole did written =
      let makes =
      answered-makes state name forest rows session frame bytes there
      (frame_answer state.setting state.forest state.sessions session now frame) result did
      (plain-result result did) written in
      rw (whole, there) makes

-- the same of the session of this name, which is open
pub among-makes : (state : State) (name now : ℕ) (forest : List Server) (rows : List SessionRow)
    (frame bytes : List ℕ) (result : Result RMessage Fault)
    → IsSome (session_at name state.sessions) → is_frame frame ≡ true →
    AnswersAmong name (frame_among state.setting state.forest state.sessions name now frame)
    (frame_may_fail frame (frame_among state.setting state.forest state.sessions name now frame))
    state.forest forest state.sessions rows result →
    bytes ≡ r_spelling (tag_of frame) (message_of result) →
    MakesStep state forest rows bytes
    (step state (Message name frame now) (is_no_memory_reply frame bytes))
among-makes state name now forest rows frame bytes result live whole did written =
    go (session_at name state.sessions) refl
  where
    go : (o : Option Session) → session_at name state.sessions ≡ o
        → MakesStep state forest rows bytes
        (step state (Message name frame now) (is_no_memory_reply frame bytes))
    go None e = let no : false ≡ true = rw e at live in absurd (cc)
    go (Some session) e =
        frame-makes state name now forest rows session frame bytes e result whole (rw e at did)
        written

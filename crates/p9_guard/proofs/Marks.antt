-- The mark that is read off a result is a permitted one.
use Rattle.std.proofs.Common.{◌≡◌, ℕ, Bool, true, false, List, [], Option, Some, None}
use Rattle.std.proofs.Common.{Result, Ok, Err, IsSome, refl, sym, ◌∙◌, arith}
use Rattle.std.specs.Prelude.{◌↔◌, ◌||◌, OnErr, OnOk, not, is_some}
use Rattle.std.specs.Cmp.Lexicographic.{bytes_decides}
use Rattle.p9_base.specs.declared.fault.Fault.TheVariants.{OutOfMemory}
use Rattle.p9_base.specs.Fault.{text_of}
use Rattle.p9_base.proofs.Faults.{fault_text_is_text}
use Rattle.p9_wire.specs.Frame.{is_frame}
use Rattle.p9_wire.specs.Frame.{IsBytes}
use Rattle.p9_wire.specs.Message.{Rerror}
use Rattle.p9_wire.specs.Spelling.{RSpells}
use Rattle.p9_wire.proofs.Framing.{one_message}
use Rattle.p9_wire.proofs.RGrammar.{r-decides}
use Rattle.p9_step.specs.Event.{Open, Message}
use Rattle.p9_step.specs.Laws.{IsAnswered}
use Rattle.p9_step.specs.Step.{runs_out}
use Rattle.p9_step.specs.Memory.{is_no_memory_reply, no_memory_reply}
use Rattle.p9_step.specs.Request.{tag_of}
use Rattle.p9_step.specs.Sound.{IsState}
use Rattle.p9_step.specs.State.{Session, State, session_at}
use Rattle.p9_step.specs.Step.{step}
use Rattle.p9_step.proofs.Answering.{every-frame-is-answered}
use Rattle.p9_export.specs.declared.export.OpenError.{OpenError}
use Rattle.p9_export.specs.declared.export.OpenError.TheVariants.{Live, NoMemory}
use Rattle.p9_guard.specs.Marks.{is_refused, may_be_refused}

-- A message.

module _ (state : State) (name : ℕ) (frame : List ℕ) (now : ℕ) (ok : IsState state)
    (whole : is_frame frame ≡ true) (bytes : IsBytes frame) where
  -- it ran out of memory where its reply says so
  frame_may_fail : (session : Session) (there : session_at name state.sessions ≡ Some session)
      (reply : List ℕ) → reply ≡ (step state (Message name frame now) true).reply
      → reply ≡ no_memory_reply frame → runs_out state session frame now true ≡ true
  frame_may_fail session there reply is none =
      let its = every-frame-is-answered state name session frame now true ok there whole bytes in
      let answered : IsAnswered state name session frame (runs_out state session frame now true)
      (step state (Message name frame now) true) its.0 = its.1 in
      let error : RSpells (step state (Message name frame now) true).reply (tag_of frame)
      (Rerror (text_of OutOfMemory)) = record {
        whole = sym is ∙ none;
        numbers = tt;
        fits = record { short = omega arith; valid = fault_text_is_text OutOfMemory };
        tag_fits = answered.spelled.tag_fits;
      } in
      answered.memory
      (one_message r-decides _ (tag_of frame) (tag_of frame) its.0 (Rerror (text_of OutOfMemory))
      answered.spelled error)

  pub message_mark : (reply : List ℕ) → IsSome (session_at name state.sessions)
      → reply
      ≡ (step state (Message name frame now) (is_no_memory_reply frame reply)).reply
      → (not (is_no_memory_reply frame reply) || may_be_refused state (Message name frame now))
      ≡ true
  message_mark reply live is = go (is_no_memory_reply frame reply) refl
    where
      permitted : (o : Option Session) → session_at name state.sessions ≡ o
          → reply ≡ (step state (Message name frame now) true).reply
          → reply ≡ no_memory_reply frame
          → may_be_refused state (Message name frame now) ≡ true
      permitted None e by none = let no : false ≡ true = rw e at live in absurd (cc)
      permitted (Some session) e by none = rw (whole, e) (frame_may_fail session e reply by none)

      go : (b : Bool) → is_no_memory_reply frame reply ≡ b
          → (not (is_no_memory_reply frame reply) || may_be_refused state (Message name frame now))
          ≡ true
      go false e = rw e refl
      go true e =
          rw e
          (permitted (session_at name state.sessions) refl (rw e at is)
          ((bytes_decides reply (no_memory_reply frame)).0 e))

  -- where the reply says so, nothing has changed
  pub message_unchanged : (after : State) (reply : List ℕ) → IsSome (session_at name state.sessions)
      → reply
      ≡ (step state (Message name frame now) (is_no_memory_reply frame reply)).reply
      → after
      ≡ (step state (Message name frame now) (is_no_memory_reply frame reply)).state
      → is_no_memory_reply frame reply ≡ true → after ≡ state
  message_unchanged after reply live is after_is e = go (session_at name state.sessions) refl
    where
      marked : after ≡ (step state (Message name frame now) true).state
      marked = rw e at after_is

      go : (o : Option Session) → session_at name state.sessions ≡ o → after ≡ state
      go None there = let no : false ≡ true = rw there at live in absurd (cc)
      go (Some session) there =
          rw (
            whole,
            there,
            frame_may_fail session there reply (rw e at is)
                ((bytes_decides reply (no_memory_reply frame)).0 e),
          ) at marked

-- An opening.

-- what an opening makes of the state
pub record HasOpened (state : State) (name : ℕ) (refused : Bool) (after : State) : Type 0 where
  pub state_is : after ≡ (step state (Open name) refused).state
  pub silent : [] ≡ (step state (Open name) refused).reply
  pub permitted : (not refused || may_be_refused state (Open name)) ≡ true

pub has_opened : {X : Type 0} (state : State) (name : ℕ) (after : State)
    (result : Result X OpenError)
    → OnOk result ((session_at name state.sessions ≡ None)
    × (after ≡ (step state (Open name) false).state))
    → ((result ≡ Err Live) ↔ IsSome (session_at name state.sessions))
    → OnErr result (after ≡ state)
    → HasOpened state name (is_refused result) after
has_opened state name after (Ok opened) ok live same = record {
  state_is = ok.1;
  silent = rw ok.0 refl;
  permitted = refl;
}
has_opened state name after (Err Live) ok live same =
    let there : is_some (session_at name state.sessions) ≡ true = live.0 refl in
    record { state_is = rw there same; silent = rw there refl; permitted = refl }
has_opened state name after (Err NoMemory) ok live same =
    go (session_at name state.sessions) refl
  where
    go : (o : Option Session) → session_at name state.sessions ≡ o
        → HasOpened state name true after
    go None e = record { state_is = same; silent = refl; permitted = rw e refl }
    go (Some session) e =
        let no : Err NoMemory ≡ Err Live = live.1 (rw e refl) in absurd (cc)

-- A step of a state that the exporter can come to leads to such a state, and so does a run.
use Rattle.std.proofs.Common.{Bool, Err, List, None, Ok, Option, Some, [], ap, false, is_some, refl}
use Rattle.std.proofs.Common.{true, ℕ, ◌<◌, ◌^◌, ◌||◌, ◌∷◌, ◌≡◌}
use Rattle.std.specs.List.{AllByRecursion}
use Rattle.std.specs.Prelude.{◌&&◌}
use Rattle.p9_wire.specs.Frame.{is_frame}
use Rattle.p9_wire.specs.Frame.{IsBytes}
use Rattle.p9_step.specs.Answer.{Answer, Outcome, outcome_of}
use Rattle.p9_step.specs.End.{on_ends}
use Rattle.p9_step.specs.Event.{Close, Event, IsEvent, Message, Open}
use Rattle.p9_step.specs.Laws.{IsRunOfBoth}
use Rattle.p9_step.specs.Memory.{frame_may_fail}
use Rattle.p9_step.specs.Sound.{IsState}
use Rattle.p9_step.specs.State.{Session, State, fresh, session_at, with_session}
use Rattle.p9_step.specs.Step.{Marked, Stepped, answered, closed, frame_answer, run}
use Rattle.p9_step.specs.Step.{step, with_outcome}
use Rattle.p9_step.proofs.Done.{OnDone, done-is}
use Rattle.p9_step.proofs.Kept.{Kept}
use Rattle.p9_step.proofs.Lawful.{forest-all}
use Rattle.p9_step.proofs.Sounds.{kept-frame, lawful-close, ready-served, served-closed}
use Rattle.p9_step.proofs.Sounds.{served-opened, served-outcome, session-served}

-- the state after a step
abbrev IsStateAfter : Stepped → Type 0
IsStateAfter after = IsState after.state

module _ (state : State) (its : IsState state) where
  after-outcome : (name : ℕ) (frame : List ℕ) (o : Outcome) → Kept state.setting state.forest o
      → IsStateAfter (with_outcome state name frame o)
  after-outcome name frame o kept = record {
    forest = forest-all state.forest o.changes its.forest kept.lawful;
    served =
        served-outcome state.setting state.forest state.sessions its.forest its.served name o kept;
  }

  after-answer : (name : ℕ) (session : Session) (frame : List ℕ) (refused : Bool)
      (answer : Answer) → session_at name state.sessions ≡ Some session
      → OnDone (Kept state.setting state.forest) answer
      → IsStateAfter (answered state name session frame refused answer)
  after-answer name session frame refused answer there kept =
      by_memory (refused && frame_may_fail frame answer) refl
    where
      by_answer : (a : Answer) → OnDone (Kept state.setting state.forest) a
          → IsStateAfter (with_outcome state name frame (outcome_of session a))
      by_answer (Ok o) done =
          after-outcome name frame o
          (done-is (Kept state.setting state.forest) (Ok o) o done refl)
      by_answer (Err fault) done =
          after-outcome name frame (outcome_of session (Err fault)) (record {
            lawful = tt;
            session =
                session-served state.setting state.forest state.sessions its.forest its.served name
                session there;
          })

      by_memory : (b : Bool) → (refused && frame_may_fail frame answer) ≡ b
          → IsStateAfter (answered state name session frame refused answer)
      by_memory true e = rw e its
      by_memory false e = rw e (by_answer answer kept)

  after-request : (name now : ℕ) (session : Session) (frame : List ℕ) (refused : Bool)
      → session_at name state.sessions ≡ Some session → IsBytes frame → now < 2 ^ 32
      → IsStateAfter (answered state name session frame refused
      (frame_answer state.setting state.forest state.sessions session now frame))
  after-request name now session frame refused there bytes short =
      after-answer name session frame refused
      (frame_answer state.setting state.forest state.sessions session now frame) there
      (kept-frame state.setting state.forest state.sessions session now frame
      (ready-served state.setting state.forest state.sessions its.forest its.served name now session
      there short) bytes)

  after-close : (name now : ℕ) (session : Session) → session_at name state.sessions ≡ Some session
      → now < 2 ^ 32 → IsStateAfter (closed state name now session)
  after-close name now session there short = record {
    forest =
        forest-all state.forest (on_ends state.setting.table now state.forest session.fids)
        its.forest
        (lawful-close state.setting state.forest state.sessions its.forest its.served name now
        session there short);
    served =
        served-closed state.setting state.forest state.sessions its.forest its.served name now
        session there short;
  }

  after-open : (name : ℕ) → IsState (record state {
    sessions = with_session name fresh state.sessions;
  })
  after-open name = record {
    forest = its.forest;
    served = served-opened state.setting state.forest state.sessions name its.served;
  }

pub step-keeps-state : (state : State) (event : Event) (refused : Bool) → IsState state
    → IsEvent event → IsState (step state event refused).state
step-keeps-state state (Open name) refused its can =
    go (refused || is_some (session_at name state.sessions)) refl
  where
    go : (b : Bool) → (refused || is_some (session_at name state.sessions)) ≡ b
        → IsState (step state (Open name) refused).state
    go true e = rw e its
    go false e = rw e (after-open state its name)
step-keeps-state state (Message name frame now) refused its can =
    go (is_frame frame) refl (session_at name state.sessions) refl
  where
    go : (b : Bool) → is_frame frame ≡ b → (o : Option Session)
        → session_at name state.sessions ≡ o
        → IsState (step state (Message name frame now) refused).state
    go false e o is = rw e its
    go true e None is = rw (e, is) its
    go true e (Some session) is =
        rw (e, is) (after-request state its name now session frame refused is can.0 can.1)
step-keeps-state state (Close name now) refused its can = go (session_at name state.sessions) refl
  where
    go : (o : Option Session) → session_at name state.sessions ≡ o
        → IsState (step state (Close name now) refused).state
    go None is = rw is its
    go (Some session) is = rw is (after-close state its name now session is can)

pub run-keeps-state : (state : State) (events : List Marked) → IsState state
    → AllByRecursion (λ event. IsEvent event.0) events → IsState (run state events).state
run-keeps-state state [] its can = its
run-keeps-state state (event ∷ events) its can =
    run-keeps-state (step state event.0 event.1).state events
    (step-keeps-state state event.0 event.1 its can.0) can.1

-- a run of events that are followed by others is the run of both
pub run-goes-on : (state : State) (events others : List Marked)
    → IsRunOfBoth state events others
run-goes-on state [] others = record { state_is = refl; replies_are = refl }
run-goes-on state (event ∷ events) others =
    let later = run-goes-on (step state event.0 event.1).state events others in
    record {
      state_is = later.state_is;
      replies_are = ap (λ rs. (step state event.0 event.1).reply ∷ rs) later.replies_are;
    }

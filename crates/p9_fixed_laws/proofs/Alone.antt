-- What a session is told, with other sessions and without them.
use Rattle.std.proofs.Common.{◌≡◌, ◌∙◌, ℕ, ◌||◌, Bool, true, false, List, [], ◌∷◌, Option, Some, None}
use Rattle.std.proofs.Common.{refl, sym, ap, subst, is_some}
use Rattle.std.specs.Prelude.{◌&&◌, ◌==◌}
use Rattle.std.specs.Option.{option_map_or}
use Rattle.p9_inside.proofs.Facts.{eq_of}
use Rattle.p9_wire.specs.Frame.{is_frame}
use Rattle.p9_fids.proofs.Places.{lookup-added, lookup-beside}
use Rattle.p9_step.specs.Answer.{Answer, Outcome, outcome_of}
use Rattle.p9_step.specs.End.{on_ends}
use Rattle.p9_step.specs.Event.{Close, Event, Message, Open}
use Rattle.p9_step.specs.ForestChange.{all_applied}
use Rattle.p9_step.specs.Memory.{frame_may_fail}
use Rattle.p9_step.specs.State.{Session, State, changed_session, fresh, session_at}
use Rattle.p9_step.specs.State.{with_session, without_session}
use Rattle.p9_step.specs.Step.{Stepped, answered, closed, frame_answer, run, step}
use Rattle.p9_step.specs.Step.{unchanged, with_outcome}
use Rattle.p9_fixed_laws.specs.Alone.{alone}
use Rattle.p9_fixed_laws.specs.Alone.{events_of, is_of, one_session, replies_to, with_forest}
use Rattle.p9_fixed_laws.specs.Laws.{IsFixedStep, NoReadsNoDifference}
use Rattle.p9_fixed_laws.specs.States.{IsFixedState, Sealed}
use Rattle.p9_fixed_laws.proofs.Shared.{frame-shared}
use Rattle.p9_fixed_laws.proofs.Rows.{apart, at_self, lookup-removed, lookup-set, remove-beside}
use Rattle.p9_fixed_laws.proofs.Rows.{set-beside}
use Rattle.p9_fixed_laws.proofs.Steps.{scene, session-fixed, step-stays, table}

-- An event of another session.

module _ (name : ℕ) (state : State) where
  beside-answer : (other : ℕ) (session : Session) (frame : List ℕ) (refused : Bool)
      (answer : Answer) → (other == name) ≡ false
      → session_at name (answered state other session frame refused answer).state.sessions
      ≡ session_at name state.sessions
  beside-answer other session frame refused answer apart_from =
      go (refused && frame_may_fail frame answer) refl
    where
      go : (b : Bool) → (refused && frame_may_fail frame answer) ≡ b
          → session_at name (answered state other session frame refused answer).state.sessions
          ≡ session_at name state.sessions
      go true e = rw e refl
      go false e =
          rw e (set-beside name other (apart name other apart_from) state.sessions
          (outcome_of session answer).session)

  -- it leaves the session as it is
  pub beside-step : (event : Event) (refused : Bool) → is_of name event ≡ false
      → session_at name (step state event refused).state.sessions ≡ session_at name state.sessions
  beside-step (Open other) refused apart_from =
      go (refused || is_some (session_at other state.sessions)) refl
    where
      go : (b : Bool) → (refused || is_some (session_at other state.sessions)) ≡ b
          → session_at name (step state (Open other) refused).state.sessions
          ≡ session_at name state.sessions
      go true e = rw e refl
      go false e =
          rw e (lookup-beside other name state.sessions fresh (apart name other apart_from))
  beside-step (Message other frame now) refused apart_from =
      go (is_frame frame) refl (session_at other state.sessions) refl
    where
      go : (b : Bool) → is_frame frame ≡ b → (o : Option Session)
          → session_at other state.sessions ≡ o
          → session_at name (step state (Message other frame now) refused).state.sessions
          ≡ session_at name state.sessions
      go false e o is = rw e refl
      go true e None is = rw (e, is) refl
      go true e (Some session) is =
          rw (e, is)
          (beside-answer other session frame refused
          (frame_answer state.setting state.forest state.sessions session now frame) apart_from)
  beside-step (Close other now) refused apart_from = go (session_at other state.sessions) refl
    where
      go : (o : Option Session) → session_at other state.sessions ≡ o
          → session_at name (step state (Close other now) refused).state.sessions
          ≡ session_at name state.sessions
      go None is = rw is refl
      go (Some session) is =
          rw is (remove-beside name other (apart name other apart_from) state.sessions)

-- An event of the session.

-- x is a step without the other sessions, y the step with them
pub record IsSame (name : ℕ) (x y : Stepped) : Type 0 where
  pub reply : x.reply ≡ y.reply
  pub state : x.state ≡ alone name y.state

module _ (sealed : Sealed) (state : State) (fixed : IsFixedState sealed state) (name : ℕ) where
  -- the state with one session
  abbrev only : Session → State
  only session = record state { sessions = (name, session) ∷ [] }

  -- so is the state alone, if the session is open
  alone-is : (session : Session) → session_at name state.sessions ≡ Some session
      → alone name state ≡ only session
  alone-is session is =
      ap (λ o. record state { sessions = one_session name o }) is

  alone-none : session_at name state.sessions ≡ None
      → alone name state ≡ record state { sessions = [] }
  alone-none none = ap (λ o. record state { sessions = one_session name o }) none

  module _ (session : Session) (there : session_at name state.sessions ≡ Some session) where
    same-outcome : (frame : List ℕ) (o : Outcome)
        → IsSame name (with_outcome (only session) name frame o) (with_outcome state name frame o)
    same-outcome frame o = record {
      reply = refl;
      state =
          ap (λ rows. record state {
            forest = all_applied o.changes state.forest;
            sessions = rows;
          }) (set ∙ sym is_set);
    }
      where
        set : changed_session name o.session ((name, session) ∷ []) ≡ (name, o.session) ∷ []
        set = rw (at_self name) refl

        is_set : one_session name (session_at name (changed_session name o.session state.sessions))
            ≡ (name, o.session) ∷ []
        is_set =
            ap (one_session name)
            (lookup-set name state.sessions session o.session there)

    same-answer : (frame : List ℕ) (refused : Bool) (answer : Answer)
        → IsSame name (answered (only session) name session frame refused answer)
        (answered state name session frame refused answer)
    same-answer frame refused answer = go (refused && frame_may_fail frame answer) refl
      where
        go : (b : Bool) → (refused && frame_may_fail frame answer) ≡ b
            → IsSame name (answered (only session) name session frame refused answer)
            (answered state name session frame refused answer)
        go true e = rw e (record { reply = refl; state = sym (alone-is session there) })
        go false e = rw e (same-outcome frame (outcome_of session answer))

    same-message : (frame : List ℕ) (now : ℕ) (refused : Bool)
        → IsSame name
        (answered (only session) name session frame refused
        (frame_answer state.setting state.forest ((name, session) ∷ []) session now frame))
        (answered state name session frame refused
        (frame_answer state.setting state.forest state.sessions session now frame))
    same-message frame now refused =
        subst (λ a. IsSame name (answered (only session) name session frame refused a)
        (answered state name session frame refused
        (frame_answer state.setting state.forest state.sessions session now frame)))
        (frame-shared (scene sealed state fixed) fixed.input (table sealed state fixed)
        session (session-fixed sealed state fixed name session there)
        state.sessions ((name, session) ∷ []) now frame)
        (same-answer frame refused
        (frame_answer state.setting state.forest state.sessions session now frame))

    -- the same where the session is looked for
    found-message : (frame : List ℕ) (now : ℕ) (refused : Bool) (o p : Option Session)
        → o ≡ Some session → p ≡ Some session
        → IsSame name
        (option_map_or (λ s. answered (only session) name s frame refused
        (frame_answer state.setting state.forest ((name, session) ∷ []) s now frame)) o
        (unchanged (only session)))
        (option_map_or (λ s. answered state name s frame refused
        (frame_answer state.setting state.forest state.sessions s now frame)) p (unchanged state))
    found-message frame now refused o p e h = rw (e, h) (same-message frame now refused)

    same-close : (now : ℕ)
        → IsSame name (closed (only session) name now session) (closed state name now session)
    same-close now = record {
      reply = refl;
      state =
          ap (λ rows. record state {
            forest =
                all_applied (on_ends state.setting.table now state.forest session.fids) state.forest;
            sessions = rows;
          }) (gone ∙ sym is_gone);
    }
      where
        gone : without_session name ((name, session) ∷ []) ≡ []
        gone = rw (at_self name) refl

        is_gone : one_session name (session_at name (without_session name state.sessions)) ≡ []
        is_gone =
            ap (one_session name)
            (lookup-removed name state.sessions fixed.sound.served.rising)

  same-open : session_at name state.sessions ≡ None
      → IsSame name
      (record { state = record state { sessions = (name, fresh) ∷ [] }; reply = [] })
      (record { state = record state { sessions = with_session name fresh state.sessions }; reply = [] })
  same-open none = record {
    reply = refl;
    state =
        ap (λ p. record state { sessions = one_session name p })
        (sym (lookup-added name state.sessions fresh none));
  }

  -- it makes the same without the others
  pub own-step : (event : Event) (refused : Bool) → is_of name event ≡ true
      → IsSame name (step (alone name state) event refused) (step state event refused)
  own-step (Open other) refused own =
      subst (λ (k : ℕ). IsSame name (step (alone name state) (Open k) refused)
      (step state (Open k) refused)) (sym (eq_of other name own))
      (go refused (session_at name state.sessions) refl)
    where
      go : (b : Bool) (o : Option Session) → session_at name state.sessions ≡ o
          → IsSame name (step (alone name state) (Open name) b) (step state (Open name) b)
      go true o is = record { reply = refl; state = refl }
      go false None is = rw is (same-open is)
      go false (Some session) is =
          rw (is, at_self name) (record { reply = refl; state = sym (alone-is session is) })
  own-step (Message other frame now) refused own =
      subst (λ (k : ℕ). IsSame name (step (alone name state) (Message k frame now) refused)
      (step state (Message k frame now) refused)) (sym (eq_of other name own))
      (go (is_frame frame) refl (session_at name state.sessions) refl)
    where
      go : (b : Bool) → is_frame frame ≡ b → (o : Option Session)
          → session_at name state.sessions ≡ o
          → IsSame name (step (alone name state) (Message name frame now) refused)
          (step state (Message name frame now) refused)
      go false e o is = rw e (record { reply = refl; state = refl })
      go true e None is = rw (e, is) (record { reply = refl; state = sym (alone-none is) })
      go true e (Some session) is =
          subst (λ (z : State). IsSame name (step z (Message name frame now) refused)
          (step state (Message name frame now) refused)) (sym (alone-is session is))
          (rw e (found-message session is frame now refused
          (session_at name ((name, session) ∷ [])) (session_at name state.sessions)
          (rw (at_self name) refl) is))
  own-step (Close other now) refused own =
      subst (λ (k : ℕ). IsSame name (step (alone name state) (Close k now) refused)
      (step state (Close k now) refused)) (sym (eq_of other name own))
      (go (session_at name state.sessions) refl)
    where
      go : (o : Option Session) → session_at name state.sessions ≡ o
          → IsSame name (step (alone name state) (Close name now) refused)
          (step state (Close name now) refused)
      go None is = rw is (record { reply = refl; state = sym (alone-none is) })
      go (Some session) is = rw (is, at_self name) (same-close session is now)

-- the state alone after an event of another session is that before it, with another forest
pub alone-beside : (name : ℕ) (state after : State) → after.setting ≡ state.setting
    → session_at name after.sessions ≡ session_at name state.sessions
    → alone name after ≡ with_forest after.forest (alone name state)
alone-beside name state after setting session = λ i. record {
  setting = setting i;
  forest = after.forest;
  sessions = one_session name (session i);
}

pub no-reads : NoReadsNoDifference
no-reads sealed state [] name fixed can others = refl
no-reads sealed state (event ∷ events) name fixed can others =
    go (is_of name event.0) refl
    (no-reads sealed (step state event.0 event.1).state events name after.fixed can.1 others.1)
  where
    after : IsFixedStep sealed state event.0 (step state event.0 event.1).state
    after = step-stays sealed state event.0 event.1 fixed can.0

    go : (b : Bool) → is_of name event.0 ≡ b
        → replies_to name events (run (step state event.0 event.1).state events).replies
        ≡ (run (alone name (step state event.0 event.1).state) (events_of name events)).replies
        → replies_to name (event ∷ events) (run state (event ∷ events)).replies
        ≡ (run (alone name state) (events_of name (event ∷ events))).replies
    go true e later =
        let same = own-step sealed state fixed name event.0 event.1 e in
        rw e
        (ap (λ r. r ∷ replies_to name events (run (step state event.0 event.1).state events).replies)
        (sym same.reply)
        ∙ ap (λ rs. (step (alone name state) event.0 event.1).reply ∷ rs)
        (later ∙ ap (λ z. (run z (events_of name events)).replies) (sym same.state)))
    go false e later =
        let is =
        alone-beside name state (step state event.0 event.1).state after.setting
        (beside-step name state event.0 event.1 e) in
        let unmoved = ap (λ f. with_forest f (alone name state)) (after.same (others.0 e)) in
        rw e (later ∙ ap (λ z. (run z (events_of name events)).replies) (is ∙ unmoved))

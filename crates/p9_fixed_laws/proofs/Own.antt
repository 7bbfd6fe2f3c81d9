-- A session in a run, and in the run of its events alone.
use Rattle.std.proofs.Common.{◌≡◌, ◌∙◌, ℕ, ◌+◌, ◌||◌, Bool, true, false, List, [], ◌∷◌, Option, Some}
use Rattle.std.proofs.Common.{None, refl, sym, ap, subst, arith, is_some, length}
use Rattle.std.specs.Prelude.{◌&&◌, if◌then◌else◌}
use Rattle.std.specs.BTreeMap.{is_at}
use Rattle.std.specs.List.{AllByRecursion}
use Rattle.std.specs.List.Sorted.{IsStrictlySortedBy}
use Rattle.std.specs.Ordering.{nat_cmp}
use Rattle.std.proofs.lemmas.List.{length-append}
use Rattle.p9_base.proofs.Rows.{set_value-same}
use Rattle.p9_tree.specs.Server.{Server}
use Rattle.p9_wire.specs.Frame.{is_frame}
use Rattle.p9_wire.specs.Message.{RMessage}
use Rattle.p9_wire.specs.Reply.{r_spelling}
use Rattle.p9_wire.specs.Spelling.{r_len}
use Rattle.p9_wire.proofs.Bytes.{length-number}
use Rattle.p9_wire.proofs.Lengths.{length-r_body}
use Rattle.p9_step.specs.Answer.{Answer, outcome_of}
use Rattle.p9_step.specs.Event.{Close, Event, IsEvent, Message, Open}
use Rattle.p9_step.specs.Memory.{frame_may_fail, no_memory_reply}
use Rattle.p9_step.specs.Request.{tag_of}
use Rattle.p9_step.specs.State.{Session, State, changed_session, session_at}
use Rattle.p9_step.specs.Step.{Marked, Ran, Stepped, answered, frame_answer, run, step}
use Rattle.p9_step.specs.Step.{with_outcome}
use Rattle.p9_step.proofs.Sounds.{session-served}
use Rattle.p9_fixed_laws.specs.Alone.{AreToldButTimes, IsToldButTimes, alone, events_of, is_of}
use Rattle.p9_fixed_laws.specs.Alone.{names_time, one_session, replies_to, tells_times}
use Rattle.p9_fixed_laws.specs.Alone.{with_forest}
use Rattle.p9_fixed_laws.specs.Laws.{IsFixedStep, OthersDontShow, SessionsAreAlone}
use Rattle.p9_fixed_laws.specs.States.{IsFixedState, Sealed, is_asked}
use Rattle.p9_fixed_laws.proofs.Alone.{IsSame, alone-beside, beside-step, no-reads, own-step}
use Rattle.p9_fixed_laws.proofs.Rows.{at_self}
use Rattle.p9_fixed_laws.proofs.Same.{IsLike, frame-like}
use Rattle.p9_fixed_laws.proofs.Steps.{session-fixed, step-stays, table}

-- a reply takes as many bytes as one whose body does
long-spelled : (tag : ℕ) (m : RMessage) → length (r_spelling tag m) ≡ 7 + r_len m
unfolding r_spelling
long-spelled tag m =
    let body = length-r_body m in simp (length-append, length-number) (omega arith)

-- the only session is found
one-found : (name : ℕ) (o : Option Session) → session_at name (one_session name o) ≡ o
one-found name None = refl
one-found name (Some session) = rw (at_self name) refl

-- without the other sessions a fixed state is one
alone-fixed : (sealed : Sealed) (state : State) (name : ℕ) → IsFixedState sealed state
    → IsFixedState sealed (alone name state)
unfolding IsStrictlySortedBy
alone-fixed sealed state name fixed = go (session_at name state.sessions) refl
  where
    go : (o : Option Session) → session_at name state.sessions ≡ o
        → IsFixedState sealed (record state { sessions = one_session name o })
    go None e = record {
      sound = record {
        forest = fixed.sound.forest;
        served = record {
          fixed = fixed.sound.served.fixed;
          given = fixed.sound.served.given;
          rising = tt;
          sessions = tt;
        };
      };
      input = fixed.input;
      forest = fixed.forest;
      fids = tt;
    }
    go (Some session) e = record {
      sound = record {
        forest = fixed.sound.forest;
        served = record {
          fixed = fixed.sound.served.fixed;
          given = fixed.sound.served.given;
          rising = (tt, tt);
          sessions = (
            session-served state.setting state.forest state.sessions fixed.sound.forest
                fixed.sound.served name session e,
            tt,
          );
        };
      };
      input = fixed.input;
      forest = fixed.forest;
      fids = (session-fixed sealed state fixed name session e, tt);
    }

-- Two fixed states that differ in times of last access alone.

-- x and y are the steps of them
record IsLikeStep (tells names : Bool) (x y : Stepped) : Type 0 where
  same : tells ≡ false → names ≡ false → x.reply ≡ y.reply
  long : names ≡ false → length x.reply ≡ length y.reply
  sessions : x.state.sessions ≡ y.state.sessions

quiet : (tells names : Bool) (state other : State) (reply : List ℕ)
    → state.sessions ≡ other.sessions
    → IsLikeStep tells names (record { state = state; reply = reply })
    (record { state = other; reply = reply })
quiet tells names state other reply same =
    record { same = λ _ _. refl; long = λ _. refl; sessions = same }

module _ (sealed : Sealed) (state : State) (g : List Server) (fixed : IsFixedState sealed state)
    (moved : IsFixedState sealed (with_forest g state)) where
  module _ (name now : ℕ) (frame : List ℕ) (session : Session)
      (there : session_at name state.sessions ≡ Some session) (a c : Answer) (tells names : Bool)
      (like : IsLike session tells names (frame_may_fail frame) a c) where
    -- the end of a request: refused memory, or its outcome
    abbrev ended : Bool → State → Answer → Stepped
    ended out before answer =
        if out then record { state = before; reply = no_memory_reply frame }
        else with_outcome before name frame (outcome_of session answer)

    same-end : (out : Bool)
        → IsLikeStep tells names (ended out state a) (ended out (with_forest g state) c)
    same-end true =
        quiet tells names state (with_forest g state) (no_memory_reply frame) refl
    same-end false = record {
      same =
          λ told none. ap (λ z. r_spelling (tag_of frame) (outcome_of session z).reply)
          (like.same told none);
      long =
          λ none. long-spelled (tag_of frame) (outcome_of session a).reply
          ∙ ap (λ size. 7 + size) (like.long none)
          ∙ sym (long-spelled (tag_of frame) (outcome_of session c).reply);
      sessions = ap (λ s. changed_session name s state.sessions) like.left;
    }

    -- a session that is kept
    kept-end : (before : State) (answer : Answer) → before.sessions ≡ state.sessions
        → (outcome_of session answer).session ≡ session → (out : Bool)
        → (ended out before answer).state.sessions ≡ state.sessions
    kept-end before answer same kept true = same
    kept-end before answer same kept false =
        ap (λ s. changed_session name s before.sessions) kept
        ∙ ap (λ rows. changed_session name session rows) same
        ∙ set_value-same (is_at (nat_cmp name)) state.sessions session there

    any-end : names ≡ true → (out late : Bool)
        → IsLikeStep tells names (ended out state a) (ended late (with_forest g state) c)
    any-end named out late = record {
      same = λ _ none. let no : true ≡ false = sym named ∙ none in absurd (cc);
      long = λ none. let no : true ≡ false = sym named ∙ none in absurd (cc);
      sessions =
          kept-end state a refl (like.kept named) out
          ∙ sym (kept-end (with_forest g state) c refl (sym like.left ∙ like.kept named) late);
    }

    like-answer : (refused : Bool)
        → IsLikeStep tells names (answered state name session frame refused a)
        (answered (with_forest g state) name session frame refused c)
    like-answer refused = go names refl
      where
        go : (b : Bool) → names ≡ b
            → IsLikeStep tells names (answered state name session frame refused a)
            (answered (with_forest g state) name session frame refused c)
        go false none =
            subst (λ t. IsLikeStep tells names
            (answered state name session frame refused a)
            (ended (refused && t) (with_forest g state) c)) (like.fails_too none)
            (same-end (refused && frame_may_fail frame a))
        go true named =
            any-end named (refused && frame_may_fail frame a) (refused && frame_may_fail frame c)

  like-step : (event : Event) (refused : Bool)
      → IsLikeStep (is_asked tells_times (with_forest g state) event) (is_asked names_time (with_forest g state) event)
      (step state event refused) (step (with_forest g state) event refused)
  like-step (Open name) refused = go (refused || is_some (session_at name state.sessions)) refl
    where
      go : (b : Bool) → (refused || is_some (session_at name state.sessions)) ≡ b
          → IsLikeStep false false (step state (Open name) refused)
          (step (with_forest g state) (Open name) refused)
      go true e = rw e (quiet _ _ _ _ [] refl)
      go false e = rw e (quiet _ _ _ _ [] refl)
  like-step (Message name frame now) refused =
      go (is_frame frame) refl (session_at name state.sessions) refl
    where
      go : (b : Bool) → is_frame frame ≡ b → (o : Option Session)
          → session_at name state.sessions ≡ o
          → IsLikeStep (is_asked tells_times (with_forest g state) (Message name frame now))
          (is_asked names_time (with_forest g state) (Message name frame now)) (step state (Message name frame now) refused)
          (step (with_forest g state) (Message name frame now) refused)
      go false e o is = rw e (quiet _ _ _ _ [] refl)
      go true e None is =
          rw (e, is) (quiet _ _ _ _ [] refl)
      go true e (Some session) is =
          rw (e, is)
          (like-answer name now frame session is
          (frame_answer state.setting state.forest state.sessions session now frame)
          (frame_answer state.setting g state.sessions session now frame) _ _
          (frame-like sealed state.setting fixed.input (table sealed state fixed) state.forest g
          fixed.forest moved.forest session (session-fixed sealed state fixed name session is)
          state.sessions now frame) refused)
  like-step (Close name now) refused = go (session_at name state.sessions) refl
    where
      go : (o : Option Session) → session_at name state.sessions ≡ o
          → IsLikeStep false false (step state (Close name now) refused)
          (step (with_forest g state) (Close name now) refused)
      go None is = rw is (quiet _ _ _ _ [] refl)
      go (Some session) is = rw is (quiet _ _ _ _ [] refl)

-- Two runs.

-- a state of the run, and one of the run of the session's events alone
record IsBeside (sealed : Sealed) (name : ℕ) (state by_itself : State) : Type 0 where
  fixed : IsFixedState sealed state
  too : IsFixedState sealed by_itself
  setting : by_itself.setting ≡ state.setting
  session : session_at name by_itself.sessions ≡ session_at name state.sessions
  single : by_itself ≡ alone name by_itself

module _ (sealed : Sealed) (name : ℕ) (state by_itself : State)
    (beside : IsBeside sealed name state by_itself) where
  -- they differ in times of last access alone
  is : by_itself ≡ with_forest by_itself.forest (alone name state)
  is = beside.single ∙ alone-beside name state by_itself beside.setting beside.session

  is_back : alone name state ≡ with_forest state.forest by_itself
  is_back = ap (with_forest state.forest) (sym is)

  module _ (event : Event) (refused : Bool) (can : IsEvent event) where
    after : IsFixedStep sealed state event (step state event refused).state
    after = step-stays sealed state event refused beside.fixed can

    after_too : IsFixedStep sealed by_itself event (step by_itself event refused).state
    after_too = step-stays sealed by_itself event refused beside.too can

    -- an event of another session
    other-beside : is_of name event ≡ false
        → IsBeside sealed name (step state event refused).state by_itself
    other-beside e = record {
      fixed = after.fixed;
      too = beside.too;
      setting = beside.setting ∙ sym after.setting;
      session = beside.session ∙ sym (beside-step name state event refused e);
      single = beside.single;
    }

    module _ (e : is_of name event ≡ true) where
      here : IsSame name (step (alone name state) event refused) (step state event refused)
      here = own-step sealed state beside.fixed name event refused e

      there : IsSame name (step (alone name by_itself) event refused) (step by_itself event refused)
      there = own-step sealed by_itself beside.too name event refused e

      like : IsLikeStep (is_asked tells_times by_itself event) (is_asked names_time by_itself event)
          (step (alone name state) event refused) (step by_itself event refused)
      like =
          subst (λ (z : State). IsLikeStep (is_asked tells_times z event) (is_asked names_time z event)
          (step (alone name state) event refused) (step z event refused)) (sym is)
          (like-step sealed (alone name state) by_itself.forest
          (alone-fixed sealed state name beside.fixed)
          (subst (IsFixedState sealed) is beside.too) event refused)

      -- its reply
      own-told : IsToldButTimes by_itself (event, refused) (step state event refused).reply
      own-told = record {
        forest = state.forest;
        sound = beside.fixed.sound.forest;
        others = beside.fixed.forest ∙ sym beside.too.forest;
        told = sym here.reply ∙ ap (λ z. (step z event refused).reply) is_back;
        same = λ told none. sym here.reply ∙ like.same told none;
        long = λ none. ap length (sym here.reply) ∙ like.long none;
      }

      same_session : session_at name (step by_itself event refused).state.sessions
          ≡ session_at name (step state event refused).state.sessions
      same_session =
          ap (session_at name)
          (sym like.sessions ∙ ap (λ (z : State). z.sessions) here.state)
          ∙ one-found name (session_at name (step state event refused).state.sessions)

      -- and the states after it
      own-beside : IsBeside sealed name (step state event refused).state
          (step by_itself event refused).state
      own-beside = record {
        fixed = after.fixed;
        too = after_too.fixed;
        setting = after_too.setting ∙ beside.setting ∙ sym after.setting;
        session = same_session;
        single = ap (λ z. (step z event refused).state) beside.single ∙ there.state;
      }

-- what is said of a run
record IsBesideRun (name : ℕ) (events : List Marked) (by_itself : State) (done : Ran) : Type 0 where
  session : session_at name done.state.sessions
      ≡ session_at name (run by_itself (events_of name events)).state.sessions
  replies : AreToldButTimes by_itself (events_of name events) (replies_to name events done.replies)

beside-run : (sealed : Sealed) (name : ℕ) (state by_itself : State) (events : List Marked)
    → IsBeside sealed name state by_itself → AllByRecursion (λ event. IsEvent event.0) events
    → IsBesideRun name events by_itself (run state events)
beside-run sealed name state by_itself [] beside can =
    record { session = sym beside.session; replies = tt }
beside-run sealed name state by_itself (event ∷ events) beside can =
    go (is_of name event.0) refl
    (λ z next. beside-run sealed name (step state event.0 event.1).state z events next can.1)
  where
    go : (b : Bool) → is_of name event.0 ≡ b
        → ((z : State) → IsBeside sealed name (step state event.0 event.1).state z
        → IsBesideRun name events z (run (step state event.0 event.1).state events))
        → IsBesideRun name (event ∷ events) by_itself (run state (event ∷ events))
    go true e later =
        let r = later (step by_itself event.0 event.1).state
        (own-beside sealed name state by_itself beside event.0 event.1 can.0 e) in
        record {
          session = rw e (r.session);
          replies =
              rw e
              (own-told sealed name state by_itself beside event.0 event.1 can.0 e, r.replies);
        }
    go false e later =
        let r = later by_itself
        (other-beside sealed name state by_itself beside event.0 event.1 can.0 e) in
        record { session = rw e (r.session); replies = rw e (r.replies) }

pub sessions-alone : SessionsAreAlone
sessions-alone sealed state events name fixed can =
    let r = beside-run sealed name state (alone name state) events (record {
      fixed = fixed;
      too = alone-fixed sealed state name fixed;
      setting = refl;
      session = one-found name (session_at name state.sessions);
      single =
          sym (ap (λ o. record state { sessions = one_session name o })
          (one-found name (session_at name state.sessions)));
    }) can in
    record { session = r.session; replies = r.replies }

pub others-dont-show : OthersDontShow
others-dont-show sealed state events others name fixed can can_too own =
    let here = sessions-alone sealed state events name fixed can in
    let there = sessions-alone sealed state others name fixed can_too in
    record {
      session =
          here.session
          ∙ ap (λ es. session_at name (run (alone name state) es).state.sessions) own
          ∙ sym there.session;
      replies =
          λ none none_too. no-reads sealed state events name fixed can none
          ∙ ap (λ es. (run (alone name state) es).replies) own
          ∙ sym (no-reads sealed state others name fixed can_too none_too);
    }

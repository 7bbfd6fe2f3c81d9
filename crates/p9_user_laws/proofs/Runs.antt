-- A run in which a session attaches only as allowed users leaves it fids of those users alone.
use Rattle.std.proofs.Common.{◌≡◌, ℕ, ◌||◌, Bool, true, false, List, [], ◌∷◌, Option, Some, None, Ok}
use Rattle.std.proofs.Common.{Err, refl, subst, sym, is_some}
use Rattle.std.specs.Prelude.{◌&&◌}
use Rattle.std.specs.BTreeMap.{is_at}
use Rattle.std.specs.Ordering.{nat_cmp}
use Rattle.p9_wire.specs.Frame.{is_frame}
use Rattle.p9_step.specs.Answer.{Answer, Outcome, outcome_of}
use Rattle.p9_step.specs.Event.{Close, Event, Message, Open}
use Rattle.p9_step.specs.Memory.{frame_may_fail}
use Rattle.p9_step.specs.State.{Session, Setting, State, fresh, session_at}
use Rattle.p9_step.specs.Step.{Marked, answered, frame_answer, run, step, with_outcome}
use Rattle.p9_step.proofs.Done.{OnDone, done-is}
use Rattle.p9_user_laws.specs.Users.{AreHarmless, BelongTo, FidsBelongToWhoAttached, IsHarmlessEvent}
use Rattle.p9_user_laws.proofs.Owned.{LeavesOwned, own-frame}
use Rattle.p9_user_laws.proofs.Rows.{EachRow, row-found, row-insert, row-lookup, row-remove, row-set}

-- no answer changes the setting
setting-answered : (state : State) (name : ℕ) (session : Session) (frame : List ℕ)
    (refused : Bool) (answer : Answer)
    → (answered state name session frame refused answer).state.setting ≡ state.setting
setting-answered state name session frame refused answer =
    go (refused && frame_may_fail frame answer) refl
  where
    go : (b : Bool) → (refused && frame_may_fail frame answer) ≡ b
        → (answered state name session frame refused answer).state.setting ≡ state.setting
    go true e = rw e refl
    go false e = rw e refl

-- no step changes it
setting-step : (state : State) (event : Event) (refused : Bool)
    → (step state event refused).state.setting ≡ state.setting
setting-step state (Open name) refused =
    go (refused || is_some (session_at name state.sessions)) refl
  where
    go : (b : Bool) → (refused || is_some (session_at name state.sessions)) ≡ b
        → (step state (Open name) refused).state.setting ≡ state.setting
    go true e = rw e refl
    go false e = rw e refl
setting-step state (Message name frame now) refused =
    go (is_frame frame) refl (session_at name state.sessions) refl
  where
    go : (b : Bool) → is_frame frame ≡ b → (o : Option Session)
        → session_at name state.sessions ≡ o
        → (step state (Message name frame now) refused).state.setting ≡ state.setting
    go false e o is = rw e refl
    go true e None is = rw (e, is) refl
    go true e (Some session) is =
        rw (e, is)
        (setting-answered state name session frame refused
        (frame_answer state.setting state.forest state.sessions session now frame))
setting-step state (Close name now) refused = go (session_at name state.sessions) refl
  where
    go : (o : Option Session) → session_at name state.sessions ≡ o
        → (step state (Close name now) refused).state.setting ≡ state.setting
    go None is = rw is refl
    go (Some session) is = rw is refl

module _ (allowed : List (List ℕ)) (name : ℕ) where
  -- if the session has the name, its fids belong to allowed users
  abbrev OwnsIfNamed : ℕ → Session → Type 0
  OwnsIfNamed other session = other ≡ name → BelongTo allowed session

  -- the same of each session
  abbrev EachOwns : State → Type 0
  EachOwns state = EachRow OwnsIfNamed state.sessions

  module _ (state : State) (each : EachOwns state) where
    owns-outcome : (other : ℕ) (frame : List ℕ) (o : Outcome) → OwnsIfNamed other o.session
        → EachOwns (with_outcome state other frame o).state
    owns-outcome other frame o its = row-set OwnsIfNamed state.sessions other o.session its each

    owns-answer : (other : ℕ) (session : Session) (frame : List ℕ) (refused : Bool)
        (answer : Answer) → OwnsIfNamed other session
        → (other ≡ name → OnDone (LeavesOwned allowed) answer)
        → EachOwns (answered state other session frame refused answer).state
    owns-answer other session frame refused answer its done =
        by_memory (refused && frame_may_fail frame answer) refl
      where
        by_answer : (a : Answer) → (other ≡ name → OnDone (LeavesOwned allowed) a)
            → EachOwns (with_outcome state other frame (outcome_of session a)).state
        by_answer (Ok o) done =
            owns-outcome other frame o
            (λ same. done-is (LeavesOwned allowed) (Ok o) o (done same) refl)
        by_answer (Err fault) done =
            owns-outcome other frame (outcome_of session (Err fault)) its

        by_memory : (b : Bool) → (refused && frame_may_fail frame answer) ≡ b
            → EachOwns (answered state other session frame refused answer).state
        by_memory true e = rw e each
        by_memory false e = rw e (by_answer answer done)

  owns-step : (state : State) (event : Event) (refused : Bool) → EachOwns state
      → IsHarmlessEvent allowed state.setting.users name event
      → EachOwns (step state event refused).state
  owns-step state (Open other) refused each harmless =
      go (refused || is_some (session_at other state.sessions)) refl
    where
      go : (b : Bool) → (refused || is_some (session_at other state.sessions)) ≡ b
          → EachOwns (step state (Open other) refused).state
      go true e = rw e each
      go false e = rw e (row-insert OwnsIfNamed state.sessions other fresh (λ same. tt) each)
  owns-step state (Message other frame now) refused each harmless =
      go (is_frame frame) refl (session_at other state.sessions) refl
    where
      go : (b : Bool) → is_frame frame ≡ b → (o : Option Session)
          → session_at other state.sessions ≡ o
          → EachOwns (step state (Message other frame now) refused).state
      go false e o is = rw e each
      go true e None is = rw (e, is) each
      go true e (Some session) is =
          let its : OwnsIfNamed other session =
          row-lookup OwnsIfNamed state.sessions other session each is in
          rw (e, is)
          (owns-answer state each other session frame refused
          (frame_answer state.setting state.forest state.sessions session now frame) its
          (λ same. own-frame allowed state.setting state.forest session (its same) state.sessions now
          frame (harmless same)))
  owns-step state (Close other now) refused each harmless =
      go (session_at other state.sessions) refl
    where
      go : (o : Option Session) → session_at other state.sessions ≡ o
          → EachOwns (step state (Close other now) refused).state
      go None is = rw is each
      go (Some session) is =
          rw is (row-remove OwnsIfNamed state.sessions (is_at (nat_cmp other)) each)

  owns-run : (state : State) (events : List Marked) → EachOwns state
      → AreHarmless allowed state.setting.users name events
      → EachOwns (run state events).state
  owns-run state [] each harmless = each
  owns-run state (event ∷ events) each harmless =
      owns-run (step state event.0 event.1).state events
      (owns-step state event.0 event.1 each harmless.0)
      (subst (λ (setting : Setting). AreHarmless allowed setting.users name events)
      (sym (setting-step state event.0 event.1)) harmless.1)

pub fids-belong : FidsBelongToWhoAttached
fids-belong allowed name state events rising owns harmless session there =
    row-lookup (OwnsIfNamed allowed name) (run state events).state.sessions name session
    (owns-run allowed name state events
    (row-found (BelongTo allowed) name state.sessions rising owns) harmless)
    there refl

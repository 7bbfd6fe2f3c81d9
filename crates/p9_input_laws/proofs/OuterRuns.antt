-- A run without what is inside, and the run.
use Rattle.std.proofs.Common.{◌≡◌, ℕ, List, [], ◌∷◌, Option, Some, None, refl, sym, ap, ◌∙◌, subst}
use Rattle.std.specs.Prelude.{◌&&◌, ◌||◌, false, not, true}
use Rattle.std.specs.BTreeMap.{is_at}
use Rattle.std.specs.Option.{option_map_or}
use Rattle.std.specs.Ordering.{nat_cmp}
use Rattle.p9_base.specs.declared.node_ref.NodeRef.{NodeRef}
use Rattle.p9_base.proofs.Rows.{each-lookup}
use Rattle.p9_wire.specs.Frame.{is_frame}
use Rattle.p9_step.specs.Event.{Close, Event, Message, Open}
use Rattle.p9_step.specs.Memory.{frame_may_fail}
use Rattle.p9_step.specs.State.{Session, State, session_at}
use Rattle.p9_step.specs.Step.{Marked, run, runs_out, step}
use Rattle.p9_guard.specs.Marks.{are_permitted, may_be_refused}
use Rattle.p9_guard_laws.specs.Grown.{Start}
use Rattle.p9_guard_laws.specs.Guarded.{IsGuardedState, premises_of}
use Rattle.p9_guard_laws.proofs.Good.{Good}
use Rattle.p9_guard_laws.proofs.Guards.{AreHeld, good_of, held_of}
use Rattle.p9_guard_laws.proofs.Messages.{frame-agrees}
use Rattle.p9_guard_laws.proofs.Scene.{SafeFids, Scene, scene_of}
use Rattle.p9_guard_laws.proofs.Steps.{Carries, step-carries}
use Rattle.p9_input_laws.specs.NeverThere.{RunsAreAsIfNeverThere, RunsAsIfNeverThere, outer_state}

-- a run keeps the setting, and is the same without what is inside
pub record RunsOuter (hidden : List NodeRef) (state : State) (events : List Marked) : Type 0 where
  pub setting : (run state events).state.setting ≡ state.setting
  pub same : RunsAsIfNeverThere hidden state (outer_state hidden state) events

module _ (hidden : List NodeRef) (start : Start) (state : State)
    (good : Good (premises_of hidden state.setting) start state.forest)
    (held : AreHeld (premises_of hidden state.setting) start state.forest state.sessions) where
  abbrev scene : Scene
  scene = scene_of hidden state.setting start state.forest good

  -- memory may be refused to an event in both states or in neither
  permitted-outer : (event : Event)
      → may_be_refused (outer_state hidden state) event ≡ may_be_refused state event
  permitted-outer (Open name) = refl
  permitted-outer (Close name clock) = refl
  permitted-outer (Message name frame clock) =
      ap (λ b. is_frame frame && b) (go (session_at name state.sessions) refl)
    where
      go : (o : Option Session) → session_at name state.sessions ≡ o
          → option_map_or
          (λ session. runs_out (outer_state hidden state) session frame clock true) o false
          ≡ option_map_or (λ session. runs_out state session frame clock true) o false
      go None there = refl
      go (Some session) there =
          let safe =
          each-lookup (λ (s : Session). SafeFids scene s.fids) (is_at (nat_cmp name))
          state.sessions session held there in
          ap (frame_may_fail frame)
          (frame-agrees scene state.sessions session clock frame safe).same

run-outer : (hidden : List NodeRef) (start : Start) (state : State)
    → Good (premises_of hidden state.setting) start state.forest
    → AreHeld (premises_of hidden state.setting) start state.forest state.sessions
    → (events : List Marked) → RunsOuter hidden state events
run-outer hidden start state good held [] =
    record { setting = refl; same = record { replies = refl; after = refl; permitted = refl } }
run-outer hidden start state good held (event ∷ events) =
    let next = (step state event.0 event.1).state in
    let c : Carries hidden start state (step (outer_state hidden state) event.0 event.1)
    (step state event.0 event.1)
    = step-carries hidden start state good held event.0 event.1 in
    let later : RunsOuter hidden next events =
    run-outer hidden start next
    (subst (λ s. Good (premises_of hidden s) start next.forest) (sym c.setting) c.good)
    (subst (λ s. AreHeld (premises_of hidden s) start next.forest next.sessions) (sym c.setting)
    c.fids) events in
    let one : (step (outer_state hidden state) event.0 event.1).state ≡ outer_state hidden next =
    λ i. record { setting = c.same_setting i; forest = c.forest i; sessions = c.sessions i } in
    record {
      setting = later.setting ∙ c.setting;
      same = record {
        replies =
            ap (λ (reply : List ℕ).
            reply ∷ (run (step (outer_state hidden state) event.0 event.1).state events).replies)
            c.reply
            ∙ ap (λ (replies : List (List ℕ)). (step state event.0 event.1).reply ∷ replies)
            (ap (λ s. (run s events).replies) one ∙ later.same.replies);
        after = ap (λ s. (run s events).state) one ∙ later.same.after;
        permitted =
            ap (λ b. (not event.1 || b)
            && are_permitted (step (outer_state hidden state) event.0 event.1).state events)
            (permitted-outer hidden start state good held event.0)
            ∙ ap (λ b. (not event.1 || may_be_refused state event.0) && b)
            (ap (λ s. are_permitted s events) one ∙ later.same.permitted);
      };
    }

-- of a guarded state
pub guarded-outer : (hidden : List NodeRef) (start : Start) (state : State)
    → IsGuardedState hidden start state → (events : List Marked)
    → RunsOuter hidden state events
guarded-outer hidden start state guarded events =
    run-outer hidden start state (good_of hidden start state guarded)
    (held_of hidden start state guarded) events

pub runs-as-if-never-there : RunsAreAsIfNeverThere
runs-as-if-never-there hidden start state events guarded =
    (guarded-outer hidden start state guarded events).same

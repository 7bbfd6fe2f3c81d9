-- A step of a fixed state leads to a fixed one.
use Rattle.std.proofs.Common.{◌≡◌, ◌∙◌, ℕ, ◌||◌, inl, inr, Bool, true, false, List, Option, Some}
use Rattle.std.proofs.Common.{None, Ok, Err, refl, sym, ap, subst, is_some}
use Rattle.std.specs.Prelude.{◌&&◌}
use Rattle.std.specs.BTreeMap.{is_at}
use Rattle.std.specs.List.{AllByRecursion}
use Rattle.std.specs.Ordering.{nat_cmp}
use Rattle.p9_base.proofs.Rows.{each-insert, each-lookup, each-remove, each-set}
use Rattle.p9_base.specs.declared.node_ref.NodeRef.{NodeRef}
use Rattle.p9_tree.specs.Server.{Server}
use Rattle.p9_tree.specs.Unread.{all_unread}
use Rattle.p9_tree.proofs.UnreadForest.{unread-forest_touched}
use Rattle.p9_inside.proofs.Facts.{clash}
use Rattle.p9_inside.proofs.Looks.{Ordered, ordered_forest}
use Rattle.p9_space.specs.Table.{IsTable}
use Rattle.p9_wire.specs.Frame.{is_frame}
use Rattle.p9_step.specs.Answer.{Answer, Outcome, outcome_of}
use Rattle.p9_step.specs.Event.{Close, Event, Message, Open}
use Rattle.p9_step.specs.ForestChange.{EditNode, Touch, all_applied, applied, edited}
use Rattle.p9_step.specs.Memory.{frame_may_fail}
use Rattle.p9_step.specs.State.{Session, Setting, State, fresh, session_at}
use Rattle.p9_step.specs.Step.{answered, closed, frame_answer, step, with_outcome}
use Rattle.p9_step.proofs.Done.{OnDone, done-is}
use Rattle.p9_step.proofs.Steps.{step-keeps-state}
use Rattle.p9_fixed_laws.specs.Laws.{StepStaysFixed}
use Rattle.p9_fixed_laws.specs.States.{HasFixedFids, IsFixedInput, IsFixedState, Sealed}
use Rattle.p9_fixed_laws.specs.States.{is_asked, reads_file}
use Rattle.p9_fixed_laws.proofs.Answers.{IsLeft, IsTouch, frame-left}
use Rattle.p9_fixed_laws.proofs.Fids.{ends-nothing}
use Rattle.p9_fixed_laws.proofs.Nodes.{Scene}

-- a time of last access is nothing else of the forest
unread-touch : (at : NodeRef) (now : ℕ) (forest : List Server)
    → all_unread (applied (EditNode at (Touch now)) forest) ≡ all_unread forest
unfolding applied edited
unread-touch at now forest = unread-forest_touched at.server at.number now forest

module _ (sealed : Sealed) (state : State) (fixed : IsFixedState sealed state) where
  abbrev pub scene : Scene
  scene = record {
    sealed = sealed;
    setting = state.setting;
    forest = state.forest;
    same = fixed.forest;
  }

  abbrev pub ordered : Ordered state.forest
  ordered = ordered_forest state.forest fixed.sound.forest

  abbrev pub table : IsTable state.setting.table
  table = fixed.sound.served.fixed.table

  -- the fids of a session
  pub session-fixed : (name : ℕ) (session : Session) → session_at name state.sessions ≡ Some session
      → HasFixedFids sealed state.setting session
  session-fixed name session there =
      each-lookup (HasFixedFids sealed state.setting) (is_at (nat_cmp name)) state.sessions session
      fixed.fids there

  -- a later state, with fids that are fixed; its forest is the same, apart from a time of last access
  -- if a file was read
  record IsAfter (reads : Bool) (after : State) : Type 0 where
    setting : after.setting ≡ state.setting
    forest : all_unread after.forest ≡ all_unread state.forest
    same : reads ≡ false → after.forest ≡ state.forest
    fids : AllByRecursion (λ row. HasFixedFids sealed state.setting row.1) after.sessions

  itself : (reads : Bool) → IsAfter reads state
  itself reads = record {
    setting = refl;
    forest = refl;
    same = λ _. refl;
    fids = fixed.fids;
  }

  after-outcome : (reads : Bool) (name : ℕ) (frame : List ℕ) (o : Outcome) → IsLeft scene reads o
      → IsAfter reads (with_outcome state name frame o).state
  after-outcome reads name frame o left = record {
    setting = refl;
    forest = elim left.changes [
      | inl none ↦ ap (λ cs. all_unread (all_applied cs state.forest)) none
      | inr read ↦ touch read.1
    ];
    same = λ not_read. elim left.changes [
      | inl none ↦ ap (λ cs. all_applied cs state.forest) none
      | inr read ↦ clash reads read.0 not_read
    ];
    fids =
        each-set (HasFixedFids sealed state.setting) (is_at (nat_cmp name)) state.sessions o.session
        left.fids fixed.fids;
  }
    where
      touch : IsTouch o.changes
          → all_unread (all_applied o.changes state.forest) ≡ all_unread state.forest
      touch t =
          ap (λ cs. all_unread (all_applied cs state.forest)) t.2 ∙ unread-touch t.0 t.1 state.forest

  after-answer : (reads : Bool) (name : ℕ) (session : Session) (frame : List ℕ) (refused : Bool)
      (answer : Answer) → session_at name state.sessions ≡ Some session
      → OnDone (IsLeft scene reads) answer
      → IsAfter reads (answered state name session frame refused answer).state
  after-answer reads name session frame refused answer there left =
      by_memory (refused && frame_may_fail frame answer) refl
    where
      by_answer : (a : Answer) → OnDone (IsLeft scene reads) a
          → IsAfter reads (with_outcome state name frame (outcome_of session a)).state
      by_answer (Ok o) done =
          after-outcome reads name frame o (done-is (IsLeft scene reads) (Ok o) o done refl)
      by_answer (Err fault) done =
          after-outcome reads name frame (outcome_of session (Err fault))
          (record { changes = inl refl; fids = session-fixed name session there })

      by_memory : (b : Bool) → (refused && frame_may_fail frame answer) ≡ b
          → IsAfter reads (answered state name session frame refused answer).state
      by_memory true e = rw e (itself reads)
      by_memory false e = rw e (by_answer answer left)

  after-close : (name now : ℕ) (session : Session) → session_at name state.sessions ≡ Some session
      → IsAfter false (closed state name now session).state
  after-close name now session there =
      let none =
      ends-nothing scene now session.fids
      (session-fixed name session there) in
      record {
        setting = refl;
        forest = ap (λ cs. all_unread (all_applied cs state.forest)) none;
        same = λ _. ap (λ cs. all_applied cs state.forest) none;
        fids =
            each-remove (HasFixedFids sealed state.setting) (is_at (nat_cmp name)) state.sessions
            fixed.fids;
      }

  after-step : (event : Event) (refused : Bool)
      → IsAfter (is_asked reads_file state event) (step state event refused).state
  after-step (Open name) refused = go (refused || is_some (session_at name state.sessions)) refl
    where
      go : (b : Bool) → (refused || is_some (session_at name state.sessions)) ≡ b
          → IsAfter false (step state (Open name) refused).state
      go true e = rw e (itself false)
      go false e =
          rw e (record {
            setting = refl;
            forest = refl;
            same = λ _. refl;
            fids =
                each-insert (HasFixedFids sealed state.setting) nat_cmp state.sessions name fresh tt
                fixed.fids;
          })
  after-step (Message name frame now) refused =
      go (is_frame frame) refl (session_at name state.sessions) refl
    where
      go : (b : Bool) → is_frame frame ≡ b → (o : Option Session)
          → session_at name state.sessions ≡ o
          → IsAfter (is_asked reads_file state (Message name frame now))
          (step state (Message name frame now) refused).state
      go false e o is = rw e (itself _)
      go true e None is = rw (e, is) (itself _)
      go true e (Some session) is =
          rw (e, is)
          (after-answer _ name session frame refused
          (frame_answer state.setting state.forest state.sessions session now frame) is
          (frame-left scene fixed.input table ordered session (session-fixed name session is)
          state.sessions now frame))
  after-step (Close name now) refused = go (session_at name state.sessions) refl
    where
      go : (o : Option Session) → session_at name state.sessions ≡ o
          → IsAfter false (step state (Close name now) refused).state
      go None is = rw is (itself false)
      go (Some session) is = rw is (after-close name now session is)

pub step-stays : StepStaysFixed
step-stays sealed state event refused fixed can =
    let after = after-step sealed state fixed event refused in
    record {
      fixed = record {
        sound = step-keeps-state state event refused fixed.sound can;
        input = subst (IsFixedInput sealed) (sym after.setting) fixed.input;
        forest = after.forest ∙ fixed.forest;
        fids =
            subst (λ (setting : Setting). AllByRecursion (λ row. HasFixedFids sealed setting row.1)
            (step state event refused).state.sessions) (sym after.setting) after.fids;
      };
      setting = after.setting;
      same = after.same;
    }

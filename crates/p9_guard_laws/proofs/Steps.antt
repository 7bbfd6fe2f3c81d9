-- A step without what is inside, and the step.
use Rattle.std.proofs.Common.{◌≡◌, ℕ, Bool, true, false, ◌&&◌, ◌||◌, List, [], Option, Some, None}
use Rattle.std.proofs.Common.{refl, sym, ap, ◌∙◌, subst, is_some}
use Rattle.std.specs.Prelude.{if◌then◌else◌}
use Rattle.std.specs.List.{AllByRecursion}
use Rattle.std.specs.Option.{option_map_or}
use Rattle.std.specs.Ordering.{nat_cmp}
use Rattle.std.specs.BTreeMap.{is_at}
use Rattle.p9_base.specs.declared.node_ref.NodeRef.{NodeRef}
use Rattle.p9_base.proofs.Rows.{each-insert, each-lookup, each-remove, each-set}
use Rattle.p9_tree.specs.Inside.{inner, is_inside, outer}
use Rattle.p9_wire.specs.Frame.{is_frame}
use Rattle.p9_step.specs.State.{Session, SessionRow, State, fresh, session_at, with_session}
use Rattle.p9_step.specs.ForestChange.{ForestChange, all_applied}
use Rattle.p9_step.specs.Answer.{Answer, Outcome, outcome_of}
use Rattle.p9_step.specs.End.{on_ends}
use Rattle.p9_step.specs.Memory.{no_memory_reply, frame_may_fail}
use Rattle.p9_step.specs.Event.{Close, Event, Message, Open}
use Rattle.p9_step.specs.Step.{Stepped, answered, closed, frame_answer, step, unchanged, with_outcome}
use Rattle.p9_guard_laws.specs.Guarded.{Premises, premises_of}
use Rattle.p9_guard_laws.specs.Grown.{Start}
use Rattle.p9_guard_laws.proofs.Scene.{SafeFids, Scene, premises_in, scene_of}
use Rattle.p9_guard_laws.proofs.Held.{HeldFids}
use Rattle.p9_guard_laws.proofs.Basics.{each_weaker}
use Rattle.p9_guard_laws.proofs.Moves.{Lawful}
use Rattle.p9_guard_laws.proofs.Good.{Good, fids-all, good-all, inner-all, inside-all, outer-all}
use Rattle.p9_guard_laws.proofs.Agrees.{Agrees, IsKeeping, keeping_of}
use Rattle.p9_guard_laws.proofs.Ends.{ends-outer, ends_lawful}
use Rattle.p9_guard_laws.proofs.Messages.{frame-agrees}

-- the state without what is inside
abbrev pub outer_state : List NodeRef → State → State
outer_state hidden st = record st { forest = outer hidden st.forest }

module _ (hidden : List NodeRef) (start : Start) (st : State) where
  abbrev us_of : Premises
  us_of = premises_of hidden st.setting

  -- x is the step without what is inside, y the step
  pub record Carries (x y : Stepped) : Type 0 where
    pub reply : x.reply ≡ y.reply
    pub setting : y.state.setting ≡ st.setting
    pub same_setting : x.state.setting ≡ y.state.setting
    pub forest : x.state.forest ≡ outer hidden y.state.forest
    pub sessions : x.state.sessions ≡ y.state.sessions
    pub good : Good us_of start y.state.forest
    pub fids : AllByRecursion (λ row. HeldFids us_of start y.state.forest row.1.fids)
        y.state.sessions
    pub insides : inner hidden y.state.forest ≡ inner hidden st.forest
    pub inside : (r : NodeRef) → is_inside r hidden y.state.forest ≡ is_inside r hidden st.forest

module _ (hidden : List NodeRef) (start : Start) (st : State)
    (good : Good (premises_of hidden st.setting) start st.forest)
    (safe : AllByRecursion (λ row. HeldFids (premises_of hidden st.setting) start st.forest row.1.fids)
    st.sessions) where
  abbrev scene : Scene
  scene = scene_of hidden st.setting start st.forest good

  abbrev st° : State
  st° = outer_state hidden st

  same_state : (reply : List ℕ)
      → Carries hidden start st (record { state = st°; reply = reply })
      (record { state = st; reply = reply })
  same_state reply = record {
    reply = refl;
    setting = refl;
    same_setting = refl;
    forest = refl;
    sessions = refl;
    good = good;
    fids = safe;
    insides = refl;
    inside = λ r. refl;
  }

  sessions_after : (cs : List ForestChange) → Lawful (premises_in scene) st.forest cs
      → (rows : List SessionRow) → AllByRecursion (λ row. SafeFids scene row.1.fids) rows
      → AllByRecursion
      (λ row. HeldFids (premises_in scene) start (all_applied cs st.forest) row.1.fids) rows
  sessions_after cs l rows h =
      each_weaker (λ row. SafeFids scene row.1.fids)
      (λ row. HeldFids (premises_in scene) start (all_applied cs st.forest) row.1.fids)
      (λ row s. fids-all (premises_in scene) start st.forest good cs l row.1.fids s) rows h

  session_safe : (name : ℕ) (session : Session) → session_at name st.sessions ≡ Some session
      → SafeFids scene session.fids
  session_safe name session there =
      each-lookup (λ (s : Session). SafeFids scene s.fids) (is_at (nat_cmp name))
      st.sessions
      session safe there

  outcome-carries : (name : ℕ) (frame : List ℕ) (o : Outcome) → IsKeeping scene o
      → Carries hidden start st (with_outcome st° name frame o) (with_outcome st name frame o)
  outcome-carries name frame o keeping = record {
    reply = refl;
    setting = refl;
    same_setting = refl;
    forest = sym (outer-all (premises_in scene) start st.forest good o.changes keeping.lawful);
    sessions = refl;
    good = good-all (premises_in scene) start st.forest good o.changes keeping.lawful;
    fids =
        each-set
        (λ (s : Session). HeldFids (premises_in scene) start (all_applied o.changes st.forest)
        s.fids)
        (is_at (nat_cmp name)) st.sessions o.session keeping.fids
        (sessions_after o.changes keeping.lawful st.sessions safe);
    insides = inner-all (premises_in scene) start st.forest good o.changes keeping.lawful;
    inside = inside-all (premises_in scene) start st.forest good o.changes keeping.lawful;
  }

  answered-carries : (name : ℕ) (session : Session) (frame : List ℕ) (refused : Bool) (x y : Answer)
      → SafeFids scene session.fids → Agrees scene x y
      → Carries hidden start st (answered st° name session frame refused x)
      (answered st name session frame refused y)
  answered-carries name session frame refused x y h a =
      subst (λ z. Carries hidden start st (answered st° name session frame refused z)
      (answered st name session frame refused y)) (sym a.same)
      (go (refused && frame_may_fail frame y))
    where
      go : (b : Bool)
          → Carries hidden start st
          (if b then record { state = st°; reply = no_memory_reply frame }
          else with_outcome st° name frame (outcome_of session y))
          (if b then record { state = st; reply = no_memory_reply frame }
          else with_outcome st name frame (outcome_of session y))
      go true = same_state (no_memory_reply frame)
      go false =
          outcome-carries name frame (outcome_of session y)
          (keeping_of scene session x y h a)

  opened-carries : (name : ℕ)
      → Carries hidden start st
      (record { state = record st° { sessions = with_session name fresh st.sessions }; reply = [] })
      (record { state = record st { sessions = with_session name fresh st.sessions }; reply = [] })
  opened-carries name = record {
    reply = refl;
    setting = refl;
    same_setting = refl;
    forest = refl;
    sessions = refl;
    good = good;
    fids =
        each-insert (λ (s : Session). SafeFids scene s.fids) nat_cmp st.sessions name
        fresh tt
        safe;
    insides = refl;
    inside = λ r. refl;
  }

  closed-carries : (name now : ℕ) (session : Session) → SafeFids scene session.fids
      → Carries hidden start st (closed st° name now session) (closed st name now session)
  closed-carries name now session h =
      let l = ends_lawful scene now session.fids h in
      let cs = on_ends st.setting.table now st.forest session.fids in
      record {
        reply = refl;
        setting = refl;
        same_setting = refl;
        forest =
            ap (λ z. all_applied z (outer hidden st.forest))
            (ends-outer scene now session.fids h)
            ∙ sym (outer-all (premises_in scene) start st.forest good cs l);
        sessions = refl;
        good = good-all (premises_in scene) start st.forest good cs l;
        fids =
            each-remove
            (λ (s : Session). HeldFids (premises_in scene) start (all_applied cs st.forest) s.fids)
            (is_at (nat_cmp name)) st.sessions (sessions_after cs l st.sessions safe);
        insides = inner-all (premises_in scene) start st.forest good cs l;
        inside = inside-all (premises_in scene) start st.forest good cs l;
      }

  pub step-carries : (event : Event) (refused : Bool)
      → Carries hidden start st (step st° event refused) (step st event refused)
  step-carries (Open name) refused = go (refused || is_some (session_at name st.sessions))
    where
      go : (b : Bool) → Carries hidden start st
          (if b then unchanged st°
          else record {
            state = record st° { sessions = with_session name fresh st.sessions };
            reply =
                [];
          })
          (if b then unchanged st
          else record {
            state = record st { sessions = with_session name fresh st.sessions };
            reply =
                [];
          })
      go true = same_state []
      go false = opened-carries name
  step-carries (Message name frame now) refused =
      go (is_frame frame) (session_at name st.sessions) refl
    where
      go : (b : Bool) (o : Option Session) → session_at name st.sessions ≡ o
          → Carries hidden start st
          (if b then option_map_or (λ session. answered st° name session frame refused
          (frame_answer st°.setting st°.forest st°.sessions session now frame)) o (unchanged st°)
          else unchanged st°)
          (if b then option_map_or (λ session. answered st name session frame refused
          (frame_answer st.setting st.forest st.sessions session now frame)) o (unchanged st)
          else unchanged st)
      go false o e = same_state []
      go true None e = same_state []
      go true (Some session) e =
          let h = session_safe name session e in
          answered-carries name session frame refused _ _ h
          (frame-agrees scene st.sessions session now frame h)
  step-carries (Close name now) refused = go (session_at name st.sessions) refl
    where
      go : (o : Option Session) → session_at name st.sessions ≡ o
          → Carries hidden start st (option_map_or (closed st° name now) o (unchanged st°))
          (option_map_or (closed st name now) o (unchanged st))
      go None e = same_state []
      go (Some session) e = closed-carries name now session (session_safe name session e)

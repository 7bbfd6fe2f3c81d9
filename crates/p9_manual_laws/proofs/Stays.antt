-- A file that was removed stays gone: the number of a node is never given again.
use Rattle.std.proofs.Common.{◌≡◌, ℕ, ◌<◌, ◌^◌, ◌||◌, Bool, true, false, List, [], ◌∷◌, Option, Some}
use Rattle.std.proofs.Common.{None, Ok, Err, refl, ap, sym, ◌∙◌, subst, arith, is_some}
use Rattle.std.specs.Prelude.{◌&&◌}
use Rattle.std.specs.List.{AllByRecursion}
use Rattle.p9_base.specs.declared.node_ref.NodeRef.{NodeRef}
use Rattle.p9_base.specs.declared.fault.Fault.TheVariants.{PhaseError}
use Rattle.p9_base.specs.Fault.{text_of}
use Rattle.p9_tree.specs.Forest.{IsForest, next_of, node_of}
use Rattle.p9_tree.specs.Node.{Node}
use Rattle.p9_tree.specs.Server.{Server}
use Rattle.p9_wire.specs.Frame.{is_frame}
use Rattle.p9_wire.specs.Message.{Rerror, Rremove, Tremove}
use Rattle.p9_fids.specs.Fid.{Fid}
use Rattle.p9_step.specs.Answer.{Answer, Outcome, outcome_of}
use Rattle.p9_step.specs.End.{on_ends}
use Rattle.p9_step.specs.Event.{Close, Event, IsEvent, Message, Open}
use Rattle.p9_step.specs.ForestChange.{all_applied}
use Rattle.p9_step.specs.Memory.{frame_may_fail}
use Rattle.p9_step.specs.Remove.{remove_answer}
use Rattle.p9_step.specs.Sound.{IsState}
use Rattle.p9_step.specs.State.{Session, State, fid_ref, session_at}
use Rattle.p9_step.specs.Step.{Marked, answered, frame_answer, run, step}
use Rattle.p9_step.proofs.Done.{OnDone, done-is, done-map}
use Rattle.p9_step.proofs.Evolves.{Evolves, evolves-same, evolves-twice, found-evolved}
use Rattle.p9_step.proofs.Kept.{Kept, kept-remove}
use Rattle.p9_step.proofs.Lawful.{evolves-lawful, forest-all}
use Rattle.p9_step.proofs.NodeRefs.{node_of-given}
use Rattle.p9_step.proofs.Passed.{RemoveDone, remove-done}
use Rattle.p9_step.proofs.Sounds.{kept-frame, lawful-close, ready-served, served-outcome}
use Rattle.p9_step.proofs.Sounds.{session-served}
use Rattle.p9_step.proofs.Steps.{step-keeps-state}
use Rattle.p9_manual_laws.specs.Asked.{Asked, Has, after_outcome, asked}
use Rattle.p9_manual_laws.specs.Removes.{IsGone, RemovedStaysGone}
use Rattle.p9_manual_laws.proofs.Gone.{gone, remove_ends, removed_is_gone}

-- in a forest that evolved, what isn't there under a number that was given isn't there later
absent_later : (forest later : List Server) (at : NodeRef) → IsForest forest
    → Evolves forest later → at.number < next_of at.server forest → node_of at forest ≡ None
    → node_of at later ≡ None
absent_later forest later at sound evolves given none = go (node_of at later) refl
  where
    go : (o : Option Node) → node_of at later ≡ o → node_of at later ≡ None
    go None e = e
    go (Some n) e =
        let was = found-evolved forest later at n sound evolves given e in
        let no : None ≡ Some was.0 = sym none ∙ was.1 in
        absurd (cc)

module _ (state : State) (its : IsState state) where
  evolves_outcome : (answer : Answer) (session : Session)
      → OnDone (Kept state.setting state.forest) answer
      → Evolves state.forest (all_applied (outcome_of session answer).changes state.forest)
  evolves_outcome (Ok o) session done =
      evolves-lawful state.forest o.changes its.forest
      (done-is (Kept state.setting state.forest) (Ok o) o done refl).lawful
  evolves_outcome (Err fault) session done = evolves-same state.forest

  evolves_answer : (name : ℕ) (session : Session) (frame : List ℕ) (refused : Bool)
      (answer : Answer) → OnDone (Kept state.setting state.forest) answer
      → Evolves state.forest (answered state name session frame refused answer).state.forest
  evolves_answer name session frame refused answer done =
      go (refused && frame_may_fail frame answer) refl
    where
      go : (b : Bool) → (refused && frame_may_fail frame answer) ≡ b
          → Evolves state.forest (answered state name session frame refused answer).state.forest
      go true e = rw e (evolves-same state.forest)
      go false e = rw e (evolves_outcome answer session done)

  evolves_close : (name now : ℕ) (session : Session) → session_at name state.sessions ≡ Some session
      → now < 2 ^ 32
      → Evolves state.forest
      (all_applied (on_ends state.setting.table now state.forest session.fids) state.forest)
  evolves_close name now session there short =
      evolves-lawful state.forest (on_ends state.setting.table now state.forest session.fids)
      its.forest
      (lawful-close state.setting state.forest state.sessions its.forest its.served name now session
      there short)

-- in each step the forest evolves
evolves_step : (state : State) (event : Event) (refused : Bool) → IsState state → IsEvent event
    → Evolves state.forest (step state event refused).state.forest
evolves_step state (Open name) refused its can =
    go (refused || is_some (session_at name state.sessions)) refl
  where
    go : (b : Bool) → (refused || is_some (session_at name state.sessions)) ≡ b
        → Evolves state.forest (step state (Open name) refused).state.forest
    go true e = rw e (evolves-same state.forest)
    go false e = rw e (evolves-same state.forest)
evolves_step state (Message name frame now) refused its can =
    go (is_frame frame) refl (session_at name state.sessions) refl
  where
    go : (b : Bool) → is_frame frame ≡ b → (o : Option Session)
        → session_at name state.sessions ≡ o
        → Evolves state.forest (step state (Message name frame now) refused).state.forest
    go false e o is = rw e (evolves-same state.forest)
    go true e None is = rw (e, is) (evolves-same state.forest)
    go true e (Some session) is =
        rw (e, is)
        (evolves_answer state its name session frame refused
        (frame_answer state.setting state.forest state.sessions session now frame)
        (kept-frame state.setting state.forest state.sessions session now frame
        (ready-served state.setting state.forest state.sessions its.forest its.served name now
        session is can.1) can.0))
evolves_step state (Close name now) refused its can = go (session_at name state.sessions) refl
  where
    go : (o : Option Session) → session_at name state.sessions ≡ o
        → Evolves state.forest (step state (Close name now) refused).state.forest
    go None is = rw is (evolves-same state.forest)
    go (Some session) is = rw is (evolves_close state its name now session is can)

-- and in a run
evolves_run : (state : State) (events : List Marked) → IsState state
    → AllByRecursion (λ event. IsEvent event.0) events
    → Evolves state.forest (run state events).state.forest
evolves_run state [] its can = evolves-same state.forest
evolves_run state (event ∷ events) its can =
    let after = (step state event.0 event.1).state in
    evolves-twice state.forest after.forest (run after events).state.forest
    (evolves_step state event.0 event.1 its can.0)
    (evolves_run after events (step-keeps-state state event.0 event.1 its can.0) can.1)

-- the answer to a remove
abbrev removing : State → Session → (now fid : ℕ) → Answer
removing state session now fid = remove_answer state.setting state.forest session now fid

-- after a remove the state is one, and its forest has evolved
module _ (state : State) (its : IsState state) (name : ℕ) (session : Session)
    (there : session_at name state.sessions ≡ Some session) (fid now : ℕ) (short : now < 2 ^ 32)
  where
    kept : OnDone (Kept state.setting state.forest) (removing state session now fid)
    kept =
        done-map (RemoveDone state.setting state.forest session now fid)
        (Kept state.setting state.forest) (removing state session now fid)
        (kept-remove state.setting state.forest session now
        (ready-served state.setting state.forest state.sessions its.forest its.served name now session
        there short) fid)
        (remove-done state.setting state.forest session now fid)

    is_state_after : IsState (after_outcome state name (outcome_of session (removing state session now fid))).state
    is_state_after = go (removing state session now fid) kept
      where
        after_kept : (o : Outcome) → Kept state.setting state.forest o
            → IsState (after_outcome state name o).state
        after_kept o its_kept = record {
          forest = forest-all state.forest o.changes its.forest its_kept.lawful;
          served =
              served-outcome state.setting state.forest state.sessions its.forest its.served name o
              its_kept;
        }

        go : (a : Answer) → OnDone (Kept state.setting state.forest) a
            → IsState (after_outcome state name (outcome_of session a)).state
        go (Ok o) done = after_kept o (done-is (Kept state.setting state.forest) (Ok o) o done refl)
        go (Err fault) done =
            after_kept (outcome_of session (Err fault)) (record {
              lawful = tt;
              session =
                  session-served state.setting state.forest state.sessions its.forest its.served name
                  session there;
            })

    evolves_after : Evolves state.forest
        (all_applied (outcome_of session (removing state session now fid)).changes state.forest)
    evolves_after = evolves_outcome state its (removing state session now fid) session kept

-- the number of a node that was removed was given
removed_given : (state : State) (name now : ℕ) (session : Session) (fid : ℕ) (v : Fid)
    → IsState state → Has state name session fid v
    → (asked state name now (Tremove fid)).reply ≡ Some Rremove
    → (fid_ref state.setting.table v).number < next_of (fid_ref state.setting.table v).server state.forest
removed_given state name now session fid v its has accepted = go (node_of at state.forest) refl
  where
    at : NodeRef
    at = fid_ref state.setting.table v

    go : (o : Option Node) → node_of at state.forest ≡ o → at.number < next_of at.server state.forest
    go (Some n) e = node_of-given state.forest at n its.forest e
    go None e =
        let refused = ap (λ (a : Asked). a.reply) (remove_ends state name now session fid v has e) in
        let no : Some Rremove ≡ Some (Rerror (text_of PhaseError)) = sym accepted ∙ refused in
        absurd (cc)

pub removed_stays_gone : RemovedStaysGone
removed_stays_gone state name session fid now v events its has short can =
    let at : NodeRef = fid_ref state.setting.table v in
    let o : Outcome = outcome_of session (removing state session now fid) in
    let after : State = (after_outcome state name o).state in
    let is : asked state name now (Tremove fid) ≡ after_outcome state name o =
    rw has.session_is refl in
    λ accepted.
    let now_gone = removed_is_gone state name session fid now v its has accepted in
    let absent : node_of at after.forest ≡ None =
    subst (λ (a : Asked). node_of at a.state.forest ≡ None) is now_gone.absent in
    let is_state = is_state_after state its name session has.session_is fid now short in
    let first = evolves_after state its name session has.session_is fid now short in
    let given = removed_given state name now session fid v its has accepted in
    let more = (first.server at.server).next in
    let given_after : at.number < next_of at.server after.forest = omega (arith, given, more) in
    let later = evolves_run after events is_state can in
    let last = (run after events).state in
    subst (λ (a : Asked). IsGone (run a.state events).state at) (sym is)
    (gone last at
    (absent_later after.forest last.forest at is_state.forest later given_after absent))

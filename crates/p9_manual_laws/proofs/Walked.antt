-- A walk of a fid leads where a walk in the mount table leads.
use Rattle.std.proofs.Common.{◌≡◌, ℕ, zero, suc, ◌+◌, ◌<◌, Bool, true, false, List, [], ◌∷◌, Option, Some}
use Rattle.std.proofs.Common.{None, Ok, Err, Result, refl, ap, sym, ◌∙◌, subst, arith, length, is_some}
use Rattle.std.proofs.Common.{take}
use Rattle.std.specs.Prelude.{◌==◌, slice_get, if◌then◌else◌}
use Rattle.std.proofs.lemmas.Bool.Decides.{nat_tests}
use Rattle.std.proofs.lemmas.List.{length-take-le}
use Rattle.p9_base.specs.declared.fault.Fault.{Fault}
use Rattle.p9_base.specs.declared.node_ref.NodeRef.{NodeRef}
use Rattle.p9_base.specs.declared.qid.Qid.{Qid}
use Rattle.p9_base.specs.Fault.{text_of}
use Rattle.p9_base.specs.Results.{obtain, need, unless}
use Rattle.p9_tree.specs.Node.{Node}
use Rattle.p9_table.specs.declared.trail.Step.{Step}
use Rattle.p9_space.specs.Place.{file_of, file_ref}
use Rattle.p9_space.specs.Trail.{here, stepped}
use Rattle.p9_space.specs.Walk.{step_of}
use Rattle.p9_wire.specs.Message.{Rerror, Rwalk, Twalk}
use Rattle.p9_fids.specs.Fid.{Fid, changed_fid, fid_at, trailed}
use Rattle.p9_step.specs.Answer.{outcome_of}
use Rattle.p9_step.specs.Qid.{qid_of}
use Rattle.p9_step.specs.State.{Session, State, who_of}
use Rattle.p9_step.specs.Walk.{Walked, ended_walk, moved}
use Rattle.p9_step.specs.Walk.{newfid_fault, walk_outcome, walked}
use Rattle.p9_manual_laws.specs.Asked.{Asked, Has, after_outcome, asked}
use Rattle.p9_manual_laws.specs.Walks.{AreQidsOf, Arrives, LeadTo, Stops, WalkLeadsByTable, walk_of}
use Rattle.p9_manual_laws.proofs.Gone.{step_arrives}
use Rattle.p9_manual_laws.proofs.Rows.{lookup-inserted}
use Rattle.p9_manual_laws.proofs.Sessions.{changed-same, fid_at-changed, session_at-changed}

-- How far names lead, and their qids.

-- a fid of the same user at another trail
at_trail : Fid → List NodeRef → Fid
at_trail v trail = record v { trail = trail }

-- a walk by names of which one is refused: how many are taken before it, and their qids
record Halts (state : State) (v : Fid) (names : List (List ℕ)) (fault : Fault) (qids : List Qid)
    : Type 0 where
  steps : ℕ
  fewer : steps < length names
  trail : List NodeRef
  taken : walk_of state v (take steps names) ≡ Ok trail
  refused : walk_of state v (take (steps + 1) names) ≡ Err fault
  qids_are : AreQidsOf state v (take steps names) qids

-- how far names lead: to the end of the walk in the mount table, or up to the step that it refuses
Leads : State → Fid → List (List ℕ) → Result (List NodeRef) Fault → Walked → Type 0
Leads state v names (Ok trail) w =
    (w.trail ≡ trail) × (w.stopped ≡ None) × AreQidsOf state v names w.qids
Leads state v names (Err fault) w = (w.stopped ≡ Some fault) × Halts state v names fault w.qids

module _ (state : State) where
  -- no names have no qids
  no_qids : (v : Fid) → AreQidsOf state v [] []
  no_qids v = record {
    count = refl;
    each = λ k qid e. let none : None ≡ Some qid = e in absurd (cc);
  }

  -- a first step that is taken
  module _ (v : Fid) (name : List ℕ) (step : Step)
      (is : step_of state.forest state.setting.table (Some (who_of state.setting v.user)) v.trail
      name ≡ Ok step) where
    next : Fid
    next = at_trail v (stepped v.trail step)

    further : (names : List (List ℕ)) → walk_of state v (name ∷ names) ≡ walk_of state next names
    unfolding next at_trail
    further names = rw is refl

    -- its qid is before those of the names behind it
    qids_behind : (names : List (List ℕ)) (q : Qid) (qs : List Qid)
        → LeadTo state v (name ∷ []) q → AreQidsOf state next names qs
        → AreQidsOf state v (name ∷ names) (q ∷ qs)
    qids_behind names q qs first later = record { count = ap suc later.count; each = go }
      where
        go : (k : ℕ) (qid : Qid) → slice_get (q ∷ qs) k ≡ Some qid
            → LeadTo state v (take (k + 1) (name ∷ names)) qid
        go zero qid e =
            let same : q ≡ qid = cc in
            subst (LeadTo state v (name ∷ [])) same first
        go (suc k) qid e =
            let there = later.each k qid e in
            let more : suc k + 1 ≡ suc (k + 1) = omega arith in
            record {
              trail = there.trail;
              walk_is =
                  ap (λ j. walk_of state v (take j (name ∷ names))) more
                  ∙ further (take (k + 1) names) ∙ there.walk_is;
              qid_is = there.qid_is;
            }

    halts_behind : (names : List (List ℕ)) (fault : Fault) (q : Qid) (qs : List Qid)
        → LeadTo state v (name ∷ []) q → Halts state next names fault qs
        → Halts state v (name ∷ names) fault (q ∷ qs)
    halts_behind names fault q qs first later =
        let more : suc later.steps + 1 ≡ suc (later.steps + 1) = omega arith in
        let fewer = later.fewer in
        record {
          steps = suc later.steps;
          fewer = omega (arith, fewer);
          trail = later.trail;
          taken = further (take later.steps names) ∙ later.taken;
          refused =
              ap (λ j. walk_of state v (take j (name ∷ names))) more
              ∙ further (take (later.steps + 1) names) ∙ later.refused;
          qids_are = qids_behind (take later.steps names) q qs first later.qids_are;
        }

    leads_behind : (names : List (List ℕ)) (r : Result (List NodeRef) Fault) (q : Qid) (w : Walked)
        → LeadTo state v (name ∷ []) q → Leads state next names r w
        → Leads state v (name ∷ names) r (record {
          qids = q ∷ w.qids;
          trail = w.trail;
          stopped = w.stopped;
        })
    unfolding Leads
    leads_behind names (Ok end) q w first later =
        (later.0, later.1, qids_behind names q w.qids first later.2)
    leads_behind names (Err fault) q w first later =
        (later.0, halts_behind names fault q w.qids first later.1)

    -- the qid of the name is that of the file where the step arrives
    leads_first : (n : Node)
        → file_of (here (stepped v.trail step)) state.setting.table state.forest ≡ Some n
        → LeadTo state v (name ∷ [])
        (qid_of (file_ref (here (stepped v.trail step)) state.setting.table) n)
    unfolding next at_trail
    leads_first n there = record {
      trail = stepped v.trail step;
      walk_is = further [];
      qid_is = rw there refl;
    }

  -- a first step that is refused
  halts_here : (v : Fid) (name : List ℕ) (names : List (List ℕ)) (fault : Fault)
      → step_of state.forest state.setting.table (Some (who_of state.setting v.user)) v.trail name
      ≡ Err fault
      → Halts state v (name ∷ names) fault []
  halts_here v name names fault is = record {
    steps = 0;
    fewer = omega arith;
    trail = v.trail;
    taken = refl;
    refused = rw is refl;
    qids_are = no_qids v;
  }

  leads : (names : List (List ℕ)) (v : Fid)
      → Leads state v names (walk_of state v names)
      (walked state.setting state.forest v.user v.trail names)
  unfolding Leads next at_trail
  leads [] v = (refl, refl, no_qids v)
  leads (name ∷ names) v =
      go (step_of state.forest state.setting.table (Some (who_of state.setting v.user)) v.trail name)
      refl (λ to. leads names to)
    where
      by_file : (step : Step) (o : Option Node)
          → file_of (here (stepped v.trail step)) state.setting.table state.forest ≡ o
          → is_some o ≡ true
          → step_of state.forest state.setting.table (Some (who_of state.setting v.user)) v.trail
          name ≡ Ok step
          → ((to : Fid) → Leads state to names (walk_of state to names)
          (walked state.setting state.forest to.user to.trail names))
          → Leads state v (name ∷ names) (walk_of state v (name ∷ names))
          (walked state.setting state.forest v.user v.trail (name ∷ names))
      by_file step None e alive is later = absurd (cc)
      by_file step (Some n) e alive is later =
          let to : Fid = next v name step is in
          rw (is, e)
          (leads_behind v name step is names (walk_of state to names)
          (qid_of (file_ref (here (stepped v.trail step)) state.setting.table) n)
          (walked state.setting state.forest to.user to.trail names)
          (leads_first v name step is n e) (later to))

      go : (r : Result Step Fault)
          → step_of state.forest state.setting.table (Some (who_of state.setting v.user)) v.trail
          name ≡ r
          → ((to : Fid) → Leads state to names (walk_of state to names)
          (walked state.setting state.forest to.user to.trail names))
          → Leads state v (name ∷ names) (walk_of state v (name ∷ names))
          (walked state.setting state.forest v.user v.trail (name ∷ names))
      go (Err fault) e later = rw e (refl, halts_here v name names fault e)
      go (Ok step) e later =
          let alive =
          step_arrives state.forest state.setting.table (Some (who_of state.setting v.user)) v.trail
          name step e in
          by_file step (file_of (here (stepped v.trail step)) state.setting.table state.forest) refl
          alive e later

-- the fid that went, or the new one, is at the end of the trail
fid_at-moved : (fid newfid : ℕ) (v : Fid) (trail : List NodeRef) (session : Session)
    → fid_at fid session.fids ≡ Some v → v.opened ≡ None
    → fid_at newfid (moved fid newfid v trail session).fids
    ≡ Some (record { user = v.user; trail = trail; opened = None })
fid_at-moved fid newfid v trail session found shut = go (newfid == fid) refl
  where
    go : (b : Bool) → (newfid == fid) ≡ b
        → fid_at newfid (moved fid newfid v trail session).fids
        ≡ Some (record { user = v.user; trail = trail; opened = None })
    go false e =
        rw e (lookup-inserted newfid session.fids
        (record { user = v.user; trail = trail; opened = None }))
    go true e =
        let same : newfid ≡ fid = grind (arith, nat_tests, e) in
        rw e (ap (λ k. fid_at k (changed_fid fid (trailed trail) session.fids)) same
        ∙ fid_at-changed fid (trailed trail) session.fids v found
        ∙ ap (λ o. Some (record { user = v.user; trail = trail; opened = o })) shut)

-- what is answered, by how far the names led
answered : (state : State) (name now fid newfid : ℕ) (session : Session) (v : Fid)
    (names : List (List ℕ)) → Has state name session fid v → v.opened ≡ None
    → newfid_fault fid newfid session.fids ≡ None
    → asked state name now (Twalk fid newfid names)
    ≡ after_outcome state name (outcome_of session
    (walk_outcome fid newfid v session
    (walked state.setting state.forest v.user v.trail names)))
unfolding obtain need unless
answered state name now fid newfid session v names has shut free =
    rw (has.session_is, has.fid_is, shut, free) refl

arrives : (state : State) (name fid newfid : ℕ) (session : Session) (v : Fid)
    (names : List (List ℕ)) (trail : List NodeRef) (w : Walked) → Has state name session fid v
    → v.opened ≡ None → w.trail ≡ trail → w.stopped ≡ None → AreQidsOf state v names w.qids
    → Arrives state name newfid v names trail
    (after_outcome state name (outcome_of session (walk_outcome fid newfid v session w)))
arrives state name fid newfid session v names trail w has shut ends on qids_are =
    rw on (record {
      qids = w.qids;
      qids_are = qids_are;
      reply_is = refl;
      session = moved fid newfid v w.trail session;
      there = record {
        session_is =
            session_at-changed state name session (moved fid newfid v w.trail session)
            has.session_is;
        fid_is =
            fid_at-moved fid newfid v w.trail session has.fid_is shut
            ∙ ap (λ t. Some (record { user = v.user; trail = t; opened = None })) ends;
      };
    })

-- there are as many qids as steps
steps_are : (state : State) (v : Fid) (names : List (List ℕ)) (fault : Fault) (qids : List Qid)
    (h : Halts state v names fault qids) → length qids ≡ h.steps
steps_are state v names fault qids h =
    let fewer = h.fewer in
    h.qids_are.count ∙ length-take-le h.steps names (omega (arith, fewer))

stops : (state : State) (name fid newfid : ℕ) (session : Session) (v : Fid)
    (names : List (List ℕ)) (fault : Fault) (w : Walked) → Has state name session fid v
    → w.stopped ≡ Some fault → Halts state v names fault w.qids
    → Stops state v names fault
    (after_outcome state name (outcome_of session (walk_outcome fid newfid v session w)))
stops state name fid newfid session v names fault w has stopped halts =
    rw stopped (record {
      steps = halts.steps;
      fewer = halts.fewer;
      trail = halts.trail;
      taken = halts.taken;
      refused = halts.refused;
      qids = w.qids;
      qids_are = halts.qids_are;
      unchanged = same w.qids;
      reply_is = told w.qids halts.steps (steps_are state v names fault w.qids halts);
    })
  where
    after : List Qid → Asked
    after qids =
        after_outcome state name
        (outcome_of session (ended_walk fid newfid v session w.trail (Some fault) qids))

    same : (qids : List Qid) → (after qids).state ≡ state
    same [] =
        ap (λ rows. record state { sessions = rows })
        (changed-same state name session has.session_is)
    same (q ∷ qs) =
        ap (λ rows. record state { sessions = rows })
        (changed-same state name session has.session_is)

    told : (qids : List Qid) (steps : ℕ) → length qids ≡ steps
        → (after qids).reply ≡ Some (if steps == 0 then Rerror (text_of fault) else Rwalk qids)
    told [] steps e =
        let none : (steps == 0) ≡ true = grind (arith, nat_tests, e) in rw none refl
    told (q ∷ qs) steps e =
        let some : (steps == 0) ≡ false = grind (arith, nat_tests, e) in rw some refl

pub walk_leads_by_table : WalkLeadsByTable
unfolding Leads
walk_leads_by_table state name session fid newfid now v names has shut free = (
  λ trail is.
      let led : Leads state v names (Ok trail) w =
      subst (λ r. Leads state v names r w) is (leads state names v) in
      subst (λ a. Arrives state name newfid v names trail a) (sym told)
      (arrives state name fid newfid session v names trail w has shut led.0 led.1 led.2),
  λ fault is.
      let led : Leads state v names (Err fault) w =
      subst (λ r. Leads state v names r w) is (leads state names v) in
      subst (λ a. Stops state v names fault a) (sym told)
      (stops state name fid newfid session v names fault w has led.0 led.1),
)
  where
    w : Walked
    w = walked state.setting state.forest v.user v.trail names

    told : asked state name now (Twalk fid newfid names)
        ≡ after_outcome state name (outcome_of session (walk_outcome fid newfid v session w))
    told = answered state name now fid newfid session v names has shut free

-- A walk, which takes a fid along names: walk(5).
use Rattle.std.specs.Prelude.{ℕ, ◌==◌, List, [], ◌∷◌, Option, Some, None, Result, Ok, Err, is_none}
use Rattle.std.specs.Prelude.{if◌then◌else◌}
use Rattle.std.specs.Option.{option_map_or}
use Rattle.p9_base.specs.declared.fault.Fault.{Fault}
use Rattle.p9_base.specs.declared.fault.Fault.TheVariants.{FidOpen, PhaseError, UnknownFid}
use Rattle.p9_base.specs.declared.node_ref.NodeRef.{NodeRef}
use Rattle.p9_base.specs.declared.qid.Qid.{Qid}
use Rattle.p9_base.specs.Results.{and_then, obtain, need, unless}
use Rattle.p9_tree.specs.Server.{Server}
use Rattle.p9_table.specs.declared.trail.Step.{Step}
use Rattle.p9_space.specs.Trail.{here, stepped}
use Rattle.p9_space.specs.Walk.{step_of}
use Rattle.p9_wire.specs.Message.{Rwalk}
use Rattle.p9_fids.specs.Fid.{Fid, FidRow, changed_fid, fid_at, put_fault, trailed, with_fid, nofid}
use Rattle.p9_step.specs.State.{Setting, Session, who_of}
use Rattle.p9_step.specs.Answer.{Answer}
use Rattle.p9_step.specs.Qid.{qid_at}

-- how far names lead: the qid of each file where a step arrives, the trail there, and the fault of
-- the step that is refused, if one is
pub record Walked : Type 0 where
  pub qids : List Qid
  pub trail : List NodeRef
  pub stopped : Option Fault

-- where a step arrives, and the qid of the file there
pub record Arrival : Type 0 where
  pub trail : List NodeRef
  pub qid : Qid

-- the trail after a step; it is the same where the step is refused
abbrev pub trail_after : List NodeRef → Result Arrival Fault → List NodeRef
trail_after trail (Err fault) = trail
trail_after trail (Ok a) = a.trail

-- a first step, and the rest of the walk after it; a step that is refused ends the walk
abbrev pub step_and_rest : List NodeRef → Result Arrival Fault → Walked → Walked
step_and_rest trail (Err fault) rest = record { qids = []; trail = trail; stopped = Some fault }
step_and_rest trail (Ok a) rest = record rest { qids = a.qid ∷ rest.qids }

module _ (setting : Setting) (forest : List Server) where
  -- a step that is taken, with the qid of the file where it arrives
  abbrev pub arrival : List NodeRef → Step → Result Arrival Fault
  arrival trail step =
      let next = stepped trail step in
      option_map_or (λ qid. Ok (record { trail = next; qid = qid }))
      (qid_at setting.table forest (here next)) (Err PhaseError)

  -- one step by a name
  abbrev pub arrived_by : (user : List ℕ) → List NodeRef → (name : List ℕ) → Result Arrival Fault
  arrived_by user trail name =
      and_then (step_of forest setting.table (Some (who_of setting user)) trail name)
      (arrival trail)

  -- one step after another, up to the first that is refused
  abbrev pub walked : (user : List ℕ) → List NodeRef → (names : List (List ℕ)) → Walked
  walked user trail [] = record { qids = []; trail = trail; stopped = None }
  walked user trail (name ∷ names) =
      let step = arrived_by user trail name in
      step_and_rest trail step (walked user (trail_after trail step) names)

-- why newfid can't be where the walk leads; the fid itself always can
abbrev pub newfid_fault : (fid newfid : ℕ) → List FidRow → Option Fault
newfid_fault fid newfid fids =
    if newfid == nofid then Some UnknownFid
    else if newfid == fid then None
    else put_fault newfid fids

-- the fid goes there itself, or newfid is added
abbrev pub moved : (fid newfid : ℕ) → Fid → List NodeRef → Session → Session
moved fid newfid v trail session = record session {
  fids = if newfid == fid then changed_fid fid (trailed trail) session.fids
      else with_fid newfid (record { user = v.user; trail = trail; opened = None }) session.fids;
}

-- a walk that is stopped at its first name is refused; one that is stopped later moves no fid
abbrev pub ended_walk : (fid newfid : ℕ) → Fid → Session → List NodeRef → Option Fault → List Qid
    → Answer
ended_walk fid newfid v session trail None qids =
    Ok (record { changes = []; session = moved fid newfid v trail session; reply = Rwalk qids })
ended_walk fid newfid v session trail (Some fault) [] = Err fault
ended_walk fid newfid v session trail (Some fault) (qid ∷ qids) =
    Ok (record { changes = []; session = session; reply = Rwalk (qid ∷ qids) })

-- the same, of how far the names led
abbrev pub walk_outcome : (fid newfid : ℕ) → Fid → Session → Walked → Answer
walk_outcome fid newfid v session w = ended_walk fid newfid v session w.trail w.stopped w.qids

-- the tests in their order
abbrev pub walk_answer : Setting → List Server → Session → (fid newfid : ℕ) → List (List ℕ)
    → Answer
walk_answer setting forest session fid newfid names =
    obtain (fid_at fid session.fids) UnknownFid (λ v.
    need (is_none v.opened) FidOpen (
    unless (newfid_fault fid newfid session.fids) (
    walk_outcome fid newfid v session (walked setting forest v.user v.trail names))))

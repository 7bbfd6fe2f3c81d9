-- What walk(5) says of a fid that walks.
use Rattle.std.specs.Prelude.{◌≡◌, ℕ, ◌+◌, ◌<◌, ◌==◌, List, None, Result, Ok, Err, Some, length}
use Rattle.std.specs.Prelude.{slice_get, take, if◌then◌else◌}
use Rattle.p9_base.specs.declared.fault.Fault.{Fault}
use Rattle.p9_base.specs.declared.node_ref.NodeRef.{NodeRef}
use Rattle.p9_base.specs.declared.qid.Qid.{Qid}
use Rattle.p9_base.specs.Fault.{text_of}
use Rattle.p9_space.specs.Trail.{here}
use Rattle.p9_space.specs.Walk.{walk}
use Rattle.p9_wire.specs.Message.{Rerror, Rwalk, Twalk}
use Rattle.p9_fids.specs.Fid.{Fid}
use Rattle.p9_step.specs.Qid.{qid_at}
use Rattle.p9_step.specs.State.{Session, State, who_of}
use Rattle.p9_step.specs.Walk.{newfid_fault}
use Rattle.p9_manual_laws.specs.Asked.{Asked, Has, asked}

-- where names lead in the mount table, for a fid's user from its trail
abbrev pub walk_of : State → Fid → List (List ℕ) → Result (List NodeRef) Fault
walk_of state v names =
    walk state.forest state.setting.table (Some (who_of state.setting v.user)) v.trail names

-- the names lead to a place whose file has the qid
pub record LeadTo (state : State) (v : Fid) (names : List (List ℕ)) (qid : Qid) : Type 0 where
  pub trail : List NodeRef
  pub walk_is : walk_of state v names ≡ Ok trail
  pub qid_is : qid_at state.setting.table state.forest (here trail) ≡ Some qid

-- there are as many qids as names, and each is that of the file to which the names up to its own
-- lead
pub record AreQidsOf (state : State) (v : Fid) (names : List (List ℕ)) (qids : List Qid)
    : Type 0 where
  pub count : length qids ≡ length names
  pub each : (k : ℕ) (qid : Qid) → slice_get qids k ≡ Some qid
      → LeadTo state v (take (k + 1) names) qid

-- a walk by names that ends at a trail: the reply has the qids of the names, and newfid is at the
-- end
pub record Arrives (state : State) (name newfid : ℕ) (v : Fid) (names : List (List ℕ))
    (trail : List NodeRef) (after : Asked) : Type 0 where
  pub qids : List Qid
  pub qids_are : AreQidsOf state v names qids
  pub reply_is : after.reply ≡ Some (Rwalk qids)
  pub session : Session
  pub there : Has after.state name session newfid (record {
    user = v.user;
    trail = trail;
    opened = None;
  })

-- a walk by names of which one is refused: so many steps are taken, and the next one is refused; no
-- fid moves, and the reply has the qids of the names before the refused one; where that is the
-- first of them, the reply is the fault
pub record Stops (state : State) (v : Fid) (names : List (List ℕ)) (fault : Fault) (after : Asked)
    : Type 0 where
  pub steps : ℕ
  pub fewer : steps < length names
  pub trail : List NodeRef
  pub taken : walk_of state v (take steps names) ≡ Ok trail
  pub refused : walk_of state v (take (steps + 1) names) ≡ Err fault
  pub qids : List Qid
  pub qids_are : AreQidsOf state v (take steps names) qids
  pub unchanged : after.state ≡ state
  pub reply_is : after.reply
      ≡ Some (if steps == 0 then Rerror (text_of fault) else Rwalk qids)

-- a walk of a fid leads where a walk in the mount table leads, for the fid's user from its trail
abbrev pub WalkLeadsByTable : Type 0
WalkLeadsByTable =
    (state : State) (name : ℕ) (session : Session) (fid newfid clock : ℕ) (v : Fid)
    (names : List (List ℕ))
    → Has state name session fid v → v.opened ≡ None → newfid_fault fid newfid session.fids ≡ None
    → let after = asked state name clock (Twalk fid newfid names) in
    ((trail : List NodeRef) → walk_of state v names ≡ Ok trail
    → Arrives state name newfid v names trail after)
    × ((fault : Fault) → walk_of state v names ≡ Err fault → Stops state v names fault after)

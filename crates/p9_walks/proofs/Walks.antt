-- Walks, step by step.
use Rattle.p9_step.specs.State.{who_of}
use Rattle.std.proofs.Common.{◌≡◌, ℕ, List, [], ◌∷◌, ◌++◌, true, false, Option, Some, None}
use Rattle.std.proofs.Common.{Ok, Err, is_none, is_some, length, map, drop, get_or, suc}
use Rattle.std.proofs.Common.{◌+◌, ◌-◌, ◌<◌, ◌≤◌, Bool, Bor, refl, append_assoc, add-one, arith, drop-cons, length-append}
use Rattle.std.proofs.Common.{length-take-le, take}
use Rattle.std.specs.Prelude.{if◌then◌else◌, nat_lt}
use Rattle.std.proofs.Math.Nat.{le-min}
use Rattle.std.proofs.lemmas.List.{append-nil, drop_all}
use Rattle.p9_base.specs.declared.fault.Fault.{Fault}
use Rattle.p9_base.specs.declared.node_ref.NodeRef.{NodeRef}
use Rattle.p9_base.specs.declared.qid.Qid.{Qid}
use Rattle.p9_base.specs.Results.{obtain, need, unless}
use Rattle.p9_tree.specs.Node.{Node}
use Rattle.p9_tree.specs.Forest.{node_of}
use Rattle.p9_tree.specs.Server.{Server}
use Rattle.p9_table.specs.declared.trail.Step.{Step}
use Rattle.p9_table.specs.declared.trail.Step.TheVariants.{Up, To}
use Rattle.p9_space.specs.Place.{file_ref}
use Rattle.p9_space.specs.Table.{MountRow}
use Rattle.p9_space.specs.Trail.{IsTrail, here, stepped}
use Rattle.p9_walks.specs.Reserved.{most_places}
use Rattle.p9_space.specs.Walk.{step_of}
use Rattle.p9_fids.specs.declared.opened.Opened.{Opened}
use Rattle.p9_fids.specs.Fid.{Fid, fid_at}
use Rattle.p9_step.specs.State.{Setting, Session}
use Rattle.p9_step.specs.Qid.{qid_at, qid_of}
use Rattle.p9_step.specs.Walk.{Walked, ended_walk, newfid_fault, walk_answer, walk_outcome}
use Rattle.p9_step.specs.Walk.{walked}

-- a walk that gave these qids before
abbrev pub so_far : List Qid → Walked → Walked
so_far qids rest = record { qids = qids ++ rest.qids; trail = rest.trail; stopped = rest.stopped }

-- the qid of the file where a step arrives
pub qid-arrived : (table : List MountRow) (forest : List Server) (place at : NodeRef) (n : Node)
    (qid : Qid) → at ≡ file_ref place table → node_of at forest ≡ Some n → qid ≡ qid_of at n
    → qid_at table forest place ≡ Some qid
qid-arrived table forest place at n qid is found told = rw (← is, found, told) refl

module _ (setting : Setting) (forest : List Server) (user : List ℕ) where
  -- one step further
  pub walked-more : (qids : List Qid) (trail : List NodeRef) (name : List ℕ) (names : List (List ℕ))
      (step : Step) (qid : Qid) → step_of forest setting.table (Some (who_of setting user)) trail name ≡ Ok step
      → qid_at setting.table forest (here (stepped trail step)) ≡ Some qid →
      so_far qids (walked setting forest user trail (name ∷ names))
      ≡ so_far (qids ++ qid ∷ []) (walked setting forest user (stepped trail step) names)
  walked-more qids trail name names step qid found there = rw (found, there) (rw append_assoc)

  -- the step that is refused ends the walk
  pub walked-stopped : (qids : List Qid) (trail : List NodeRef) (name : List ℕ)
      (names : List (List ℕ)) (fault : Fault)
      → step_of forest setting.table (Some (who_of setting user)) trail name ≡ Err fault →
      so_far qids (walked setting forest user trail (name ∷ names)) ≡ record {
        qids = qids;
        trail = trail;
        stopped = Some fault;
      }
  walked-stopped qids trail name names fault refused = rw refused (rw append-nil)

  -- a step by the next name
  pub walked-turn : (qids qids' : List Qid) (trail trail' : List NodeRef)
      (names : List (Bor (List ℕ))) (i : ℕ) (d : Bor (List ℕ)) (step : Step) (qid : Qid) →
      i < length names
      → step_of forest setting.table (Some (who_of setting user)) trail (get_or names i d).now ≡ Ok step
      → qid_at setting.table forest (here (stepped trail step)) ≡ Some qid
      → qids' ≡ qids ++ qid ∷ [] → trail' ≡ stepped trail step →
      so_far qids (walked setting forest user trail (map (λ n. n.now) (drop i names)))
      ≡ so_far qids' (walked setting forest user trail' (map (λ n. n.now) (drop (i + 1) names)))
  walked-turn qids qids' trail trail' names i d step qid within found there pushed taken =
      rw (add-one, drop-cons names i d, pushed, taken)
      (walked-more qids trail (get_or names i d).now (map (λ n. n.now) (drop (suc i) names))
      step qid found there)

  -- the next name is refused
  pub walked-end : (qids : List Qid) (trail : List NodeRef) (names : List (Bor (List ℕ))) (i : ℕ)
      (d : Bor (List ℕ)) (fault : Fault) →
      i < length names
      → step_of forest setting.table (Some (who_of setting user)) trail (get_or names i d).now ≡ Err fault →
      so_far qids (walked setting forest user trail (map (λ n. n.now) (drop i names))) ≡ record {
        qids = qids;
        trail = trail;
        stopped = Some fault;
      }
  walked-end qids trail names i d fault within refused =
      rw (drop-cons names i d)
      (walked-stopped qids trail (get_or names i d).now (map (λ n. n.now) (drop (suc i) names))
      fault refused)

  -- no name is left
  pub walked-all : (qids : List Qid) (trail : List NodeRef) (names : List (Bor (List ℕ))) (i : ℕ)
      → length names ≤ i →
      so_far qids (walked setting forest user trail (map (λ n. n.now) (drop i names))) ≡ record {
        qids = qids;
        trail = trail;
        stopped = None;
      }
  walked-all qids trail names i past = rw (drop_all i names past) (rw append-nil)

-- a step leads to one place more at most
pub stepped-few : (trail : List NodeRef) (step : Step) → length (stepped trail step) ≤ length trail + 1
stepped-few trail Up = up (nat_lt 1 (length trail))
  where
    up : (b : Bool) → length (if b then take (length trail - 1) trail else trail) ≤ length trail + 1
    up true = let fewer = length-take-le (length trail - 1) trail (omega arith) in omega (arith, fewer)
    up false = omega arith
stepped-few trail (To place) = omega (arith, length-append trail (place ∷ []))

-- how many places a walk came to
pub few-places : (trail start : List NodeRef) (i names : ℕ) → IsTrail trail
    → length trail ≤ length start + i → i ≤ names → length trail ≤ most_places names start
few-places trail start i names is few within =
    le-min is.few (omega (arith, few, within))

-- of the fid, only its user goes on
ended_walk-user : (fid newfid : ℕ) (v w : Fid) (session : Session) (trail : List NodeRef)
    (stopped : Option Fault) (qids : List Qid) → v.user ≡ w.user
    → ended_walk fid newfid v session trail stopped qids
    ≡ ended_walk fid newfid w session trail stopped qids
ended_walk-user fid newfid v w session trail None qids same = rw same
ended_walk-user fid newfid v w session trail (Some fault) [] same = refl
ended_walk-user fid newfid v w session trail (Some fault) (qid ∷ qids) same = refl

-- what is not open is nothing
closed-is_none : (o : Option Opened) → is_some o ≡ false → is_none o ≡ true
closed-is_none None closed = refl
closed-is_none (Some x) closed = cc

-- a walk that no test refuses
pub walk_answer-goes : (setting : Setting) (forest : List Server) (session : Session)
    (fid newfid : ℕ) (names : List (List ℕ)) (v w : Fid) → fid_at fid session.fids ≡ Some v
    → is_some v.opened ≡ false → newfid_fault fid newfid session.fids ≡ None → v.user ≡ w.user →
    walk_answer setting forest session fid newfid names
    ≡ walk_outcome fid newfid w session (walked setting forest v.user v.trail names)
unfolding obtain need unless
walk_answer-goes setting forest session fid newfid names v w found closed free same =
    let none = closed-is_none v.opened closed in
    let walk = walked setting forest v.user v.trail names in
    rw (found, none, free)
    (ended_walk-user fid newfid v w session walk.trail walk.stopped walk.qids same)

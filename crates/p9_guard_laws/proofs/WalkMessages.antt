-- A walk as a message: the fid that it makes or moves.
use Rattle.std.proofs.Common.{◌≡◌, ℕ, Bool, true, false, List, [], ◌∷◌, Option, Some, None, refl}
use Rattle.std.specs.Prelude.{◌==◌, is_none}
use Rattle.std.specs.Ordering.{nat_cmp}
use Rattle.p9_base.specs.declared.fault.Fault.{Fault}
use Rattle.p9_base.specs.declared.fault.Fault.TheVariants.{FidOpen, UnknownFid}
use Rattle.p9_base.specs.declared.node_ref.NodeRef.{NodeRef}
use Rattle.p9_base.specs.declared.qid.Qid.{Qid}
use Rattle.p9_base.proofs.Rows.{each-insert}
use Rattle.p9_fids.specs.Fid.{Fid, fid_at, trailed}
use Rattle.p9_step.specs.State.{Session}
use Rattle.p9_step.specs.Walk.{ended_walk, moved, walk_answer}
use Rattle.p9_step.proofs.Passed.{is_none-None}
use Rattle.p9_guard_laws.proofs.Scene.{SafeFid, SafeFids, Scene, premises_in, outer_of}
use Rattle.p9_guard_laws.proofs.Walks.{SafeTrail, walked-outer, walked_safe}
use Rattle.p9_guard_laws.proofs.Agrees.{Agrees, agrees_err, agrees_given, agrees_need, agrees_ok}
use Rattle.p9_guard_laws.proofs.Agrees.{agrees_quiet, agrees_unless, fid_found, fids_changed}
use Rattle.p9_guard_laws.proofs.Fids.{not_opened}

module _ (scene : Scene) where
  moved_safe : (session : Session) (fid newfid : ℕ) (v : Fid) (trail : List NodeRef)
      → SafeFids scene session.fids → fid_at fid session.fids ≡ Some v → v.opened ≡ None
      → SafeFid scene v → SafeTrail scene trail
      → SafeFids scene (moved fid newfid v trail session).fids
  moved_safe session fid newfid v trail h at shut s all = go (newfid == fid) refl
    where
      go : (b : Bool) → (newfid == fid) ≡ b → SafeFids scene (moved fid newfid v trail session).fids
      go true e =
          rw e
          (fids_changed (premises_in scene) scene.start scene.forest session.fids fid
          (trailed trail) v at (record {
            listed = s.listed;
            places = all;
            shown = λ o is. not_opened v.opened o shut is;
          }) h)
      go false e =
          rw e (each-insert (SafeFid scene) nat_cmp session.fids newfid _ (record {
            listed = s.listed;
            places = all;
            shown = λ o is. not_opened None o refl is;
          }) h)

  ended-agrees : (session : Session) (fid newfid : ℕ) (v : Fid) (trail : List NodeRef)
      (stopped : Option Fault) (qids : List Qid)
      → SafeFids scene session.fids → fid_at fid session.fids ≡ Some v → v.opened ≡ None
      → SafeFid scene v → SafeTrail scene trail
      → Agrees scene (ended_walk fid newfid v session trail stopped qids)
      (ended_walk fid newfid v session trail stopped qids)
  ended-agrees session fid newfid v trail None qids h at shut s all =
      agrees_ok scene _ (record {
        lawful = tt;
        fids = moved_safe session fid newfid v trail h at shut s all;
      })
  ended-agrees session fid newfid v trail (Some fault) [] h at shut s all =
      agrees_err scene fault
  ended-agrees session fid newfid v trail (Some fault) (qid ∷ qids) h at shut s all =
      agrees_quiet scene session _ h

  pub walk-agrees : (session : Session) (fid newfid : ℕ) (names : List (List ℕ))
      → SafeFids scene session.fids
      → Agrees scene (walk_answer scene.setting (outer_of scene) session fid newfid names)
      (walk_answer scene.setting scene.forest session fid newfid names)
  walk-agrees session fid newfid names h =
      agrees_given scene (fid_at fid session.fids) UnknownFid _ _ (λ v at.
      let s = fid_found (premises_in scene) scene.start scene.forest session.fids fid v h at in
      agrees_need scene (is_none v.opened) FidOpen _ _ (λ shut.
      agrees_unless scene _ _ _ (λ _.
      rw (walked-outer scene v.user s.listed v.trail names s.places)
      (ended-agrees session fid newfid v _ _ _ h at (is_none-None v.opened shut) s
      (walked_safe scene v.user s.listed v.trail names s.places)))))

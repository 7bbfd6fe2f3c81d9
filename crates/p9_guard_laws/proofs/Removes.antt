-- A removal.
use Rattle.std.proofs.Common.{ℕ, not, is_some}
use Rattle.std.specs.Ordering.{nat_cmp}
use Rattle.std.specs.BTreeMap.{is_at}
use Rattle.p9_base.specs.declared.fault.Fault.TheVariants.{IsRoot, NotEmpty, PermissionDenied}
use Rattle.p9_base.specs.declared.fault.Fault.TheVariants.{PhaseError, UnknownFid}
use Rattle.p9_base.proofs.Rows.{each-remove}
use Rattle.p9_tree.specs.Forest.{has_children_of}
use Rattle.p9_inside.proofs.Forests.{keeps_children}
use Rattle.p9_fids.specs.Fid.{Fid, fid_at}
use Rattle.p9_step.specs.State.{Session, fid_file, fid_ref, who_of}
use Rattle.p9_step.specs.Clunk.{without}
use Rattle.p9_step.specs.End.{taken_out}
use Rattle.p9_step.specs.Remove.{removal, remove_answer}
use Rattle.p9_step.specs.Rights.{may_write_parent}
use Rattle.p9_guard_laws.proofs.Scene.{SafeFid, SafeFids, Scene, premises_in, outer_of}
use Rattle.p9_guard_laws.proofs.Agrees.{Agrees, agrees_changes, agrees_given, agrees_need}
use Rattle.p9_guard_laws.proofs.Agrees.{agrees_outcome, fid_found}
use Rattle.p9_guard_laws.proofs.Fids.{fid_file-outer, fid_member}
use Rattle.p9_guard_laws.proofs.Parents.{may_write_parent-outer, removable}
use Rattle.p9_guard_laws.proofs.Ends.{taken_lawful}

module _ (scene : Scene) where
  removal-agrees : (left : Session) (now : ℕ) (v : Fid) → SafeFid scene v → SafeFids scene left.fids
      → Agrees scene (removal scene.setting (outer_of scene) left now v)
      (removal scene.setting scene.forest left now v)
  removal-agrees left now v s h =
      let r = fid_ref scene.setting.table v in
      let m = fid_member scene v s in
      rw (fid_file-outer scene v s)
      (agrees_given scene (fid_file scene.setting.table scene.forest v) PhaseError _ _ (λ x e.
      agrees_need scene (is_some x.parent) IsRoot _ _ (λ _.
      rw (may_write_parent-outer scene v.user r x e m.outside)
      (agrees_need scene (may_write_parent (who_of scene.setting v.user) scene.forest r x)
      PermissionDenied _ _
      (λ can.
      rw
      ((keeps_children scene.hidden scene.forest r
      (removable scene r x v.user m e s.listed can)).some)
      (agrees_need scene (not (has_children_of r scene.forest)) NotEmpty _ _ (λ _.
      agrees_changes scene (taken_out v.user now r x) left _
      (taken_lawful scene r x v.user now e m.outside) h)))))))

  pub remove-agrees : (session : Session) (now fid : ℕ) → SafeFids scene session.fids
      → Agrees scene (remove_answer scene.setting (outer_of scene) session now fid)
      (remove_answer scene.setting scene.forest session now fid)
  remove-agrees session now fid h =
      agrees_given scene (fid_at fid session.fids) UnknownFid _ _ (λ v at.
      let s = fid_found (premises_in scene) scene.start scene.forest session.fids fid v h at in
      let left = each-remove (SafeFid scene) (is_at (nat_cmp fid)) session.fids h in
      agrees_outcome scene (without fid session) _ _ left
      (removal-agrees (without fid session) now v s left))

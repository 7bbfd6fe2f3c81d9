-- A write.
use Rattle.std.proofs.Common.{◌≡◌, ℕ, List, [], ◌∷◌, Some}
use Rattle.p9_base.specs.declared.fault.Fault.TheVariants.{PhaseError, UnknownFid, FidNotOpen}
use Rattle.p9_base.specs.declared.fault.Fault.TheVariants.{FileTooLarge}
use Rattle.p9_tree.specs.Node.{Node}
use Rattle.p9_fids.specs.Fid.{Fid, fid_at}
use Rattle.p9_step.specs.State.{Session, fid_file, fid_ref}
use Rattle.p9_step.specs.ForestChange.{Mark, Overwrite}
use Rattle.p9_step.specs.Write.{is_writable, write_answer, write_file, write_offset}
use Rattle.p9_guard_laws.proofs.Scene.{SafeFid, SafeFids, Scene, premises_in, outer_of}
use Rattle.p9_guard_laws.proofs.Agrees.{Agrees, agrees_changes, agrees_given, agrees_need}
use Rattle.p9_guard_laws.proofs.Agrees.{agrees_quiet, fid_found}
use Rattle.p9_guard_laws.proofs.Fids.{fid_file-outer, fid_member}
use Rattle.p9_guard_laws.proofs.Edits.{mark_stands, two_edits, write_stands}

module _ (scene : Scene) where
  file-agrees : (session : Session) (now : ℕ) (v : Fid) (x : Node) (offset : ℕ) (bytes : List ℕ)
      → SafeFid scene v → SafeFids scene session.fids
      → fid_file scene.setting.table scene.forest v ≡ Some x
      → Agrees scene (write_file session now v (fid_ref scene.setting.table v) x offset bytes)
      (write_file session now v (fid_ref scene.setting.table v) x offset bytes)
  file-agrees session now v x offset [] s h e = agrees_quiet scene session _ h
  file-agrees session now v x offset (b ∷ bs) s h e =
      agrees_need scene _ FileTooLarge _ _ (λ _.
      agrees_changes scene _ session _
      (two_edits scene (fid_ref scene.setting.table v) x
      (Overwrite (write_offset offset x) (b ∷ bs))
      (Mark v.user now) e
      (fid_member scene v s).outside (write_stands (premises_in scene) _ _)
      (mark_stands (premises_in scene) v.user now)) h)

  pub write-agrees : (session : Session) (now fid offset : ℕ) (bytes : List ℕ)
      → SafeFids scene session.fids
      → Agrees scene (write_answer scene.setting (outer_of scene) session now fid offset bytes)
      (write_answer scene.setting scene.forest session now fid offset bytes)
  write-agrees session now fid offset bytes h =
      agrees_given scene (fid_at fid session.fids) UnknownFid _ _ (λ v at.
      let s = fid_found (premises_in scene) scene.start scene.forest session.fids fid v h at in
      agrees_need scene (is_writable v) FidNotOpen _ _ (λ _.
      rw (fid_file-outer scene v s)
      (agrees_given scene (fid_file scene.setting.table scene.forest v) PhaseError _ _ (λ x e.
      file-agrees session now v x offset bytes s h e))))

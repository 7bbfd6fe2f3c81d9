-- The files of fids; and stat.
use Rattle.std.proofs.Common.{◌≡◌, ℕ, Option, Some, None}
use Rattle.p9_base.specs.declared.fault.Fault.TheVariants.{PhaseError, UnknownFid}
use Rattle.p9_space.specs.Trail.{here}
use Rattle.p9_fids.specs.declared.opened.Opened.{Opened}
use Rattle.p9_fids.specs.Fid.{Fid, fid_at}
use Rattle.p9_step.specs.State.{Session, fid_file, fid_ref}
use Rattle.p9_step.specs.Stat.{stat_answer}
use Rattle.p9_guard_laws.proofs.Scene.{SafeFid, SafeFids, Scene, premises_in, outer_of}
use Rattle.p9_guard_laws.proofs.Walks.{SafeMember, file-outer, file_safe, here_safe}
use Rattle.p9_guard_laws.proofs.Agrees.{Agrees, agrees_given, agrees_quiet, fid_found}

pub not_opened : {X : Type 0} (v : Option Opened) (o : Opened) → v ≡ None → v ≡ Some o → X
not_opened v o a b = cc

module _ (scene : Scene) where
  -- the file of a safe fid is the same
  pub fid_file-outer : (v : Fid) → SafeFid scene v
      → fid_file scene.setting.table (outer_of scene) v
      ≡ fid_file scene.setting.table scene.forest v
  fid_file-outer v s =
      file-outer scene (here v.trail)
      (here_safe scene v.trail s.places)

  pub fid_member : (v : Fid) → SafeFid scene v
      → SafeMember scene (fid_ref scene.setting.table v)
  fid_member v s =
      file_safe scene (here v.trail)
      (here_safe scene v.trail s.places)

  pub stat-agrees : (session : Session) (fid : ℕ) → SafeFids scene session.fids
      → Agrees scene (stat_answer scene.setting (outer_of scene) session fid)
      (stat_answer scene.setting scene.forest session fid)
  stat-agrees session fid h =
      agrees_given scene (fid_at fid session.fids) UnknownFid _ _ (λ v at.
      let s = fid_found (premises_in scene) scene.start scene.forest session.fids fid v h at in
      rw (fid_file-outer v s)
      (agrees_given scene (fid_file scene.setting.table scene.forest v) PhaseError _ _ (λ n there.
      agrees_quiet scene session _ h)))

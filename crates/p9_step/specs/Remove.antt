-- Removing a file, which ends its fid in every case: remove(5).
use Rattle.std.specs.Prelude.{ℕ, not, List, Ok, is_some}
use Rattle.p9_base.specs.declared.fault.Fault.TheVariants.{IsRoot, NotEmpty, PermissionDenied}
use Rattle.p9_base.specs.declared.fault.Fault.TheVariants.{PhaseError, UnknownFid}
use Rattle.p9_base.specs.Results.{obtain, need}
use Rattle.p9_tree.specs.Server.{Server}
use Rattle.p9_tree.specs.Forest.{has_children_of}
use Rattle.p9_wire.specs.Message.{Rremove}
use Rattle.p9_fids.specs.Fid.{Fid, fid_at}
use Rattle.p9_step.specs.State.{Setting, Session, fid_file, fid_ref, who_of}
use Rattle.p9_step.specs.Answer.{Answer, outcome_of}
use Rattle.p9_step.specs.Clunk.{without}
use Rattle.p9_step.specs.End.{taken_out}
use Rattle.p9_step.specs.Rights.{may_write_parent}

-- the removal, in a session that the fid has left
abbrev pub removal : Setting → List Server → Session → ℕ → Fid → Answer
removal setting forest left clock v =
    obtain (fid_file setting.table forest v) PhaseError (λ n.
    let at = fid_ref setting.table v in
    need (is_some n.parent) IsRoot (
    need (may_write_parent (who_of setting v.user) forest at n) PermissionDenied (
    need (not (has_children_of at forest)) NotEmpty (
    Ok (record { changes = taken_out v.user clock at n; session = left; reply = Rremove })))))

-- a refused removal is answered too, since its fid ends
abbrev pub remove_answer : Setting → List Server → Session → (clock fid : ℕ) → Answer
remove_answer setting forest session clock fid =
    obtain (fid_at fid session.fids) UnknownFid (λ v.
    let left = without fid session in
    Ok (outcome_of left (removal setting forest left clock v)))

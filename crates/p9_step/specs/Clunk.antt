-- Letting a fid go: clunk(5).
use Rattle.std.specs.Prelude.{ℕ, List, Ok}
use Rattle.p9_base.specs.declared.fault.Fault.TheVariants.{UnknownFid}
use Rattle.p9_base.specs.Results.{obtain}
use Rattle.p9_tree.specs.Server.{Server}
use Rattle.p9_wire.specs.Message.{Rclunk}
use Rattle.p9_fids.specs.Fid.{fid_at, without_fid}
use Rattle.p9_step.specs.State.{Setting, Session}
use Rattle.p9_step.specs.Answer.{Answer}
use Rattle.p9_step.specs.End.{on_end}

-- the session without the fid
abbrev pub without : ℕ → Session → Session
without fid session = record session { fids = without_fid fid session.fids }

-- the fid goes, with what its end changes
abbrev pub clunk_answer : Setting → List Server → Session → (clock fid : ℕ) → Answer
clunk_answer setting forest session clock fid =
    obtain (fid_at fid session.fids) UnknownFid (λ v.
    Ok (record {
      changes = on_end setting.table clock forest v;
      session = without fid session;
      reply = Rclunk;
    }))

-- What is told of a file: stat(5).
use Rattle.std.specs.Prelude.{ℕ, List, [], Ok}
use Rattle.p9_base.specs.declared.fault.Fault.TheVariants.{PhaseError, UnknownFid}
use Rattle.p9_base.specs.Results.{obtain}
use Rattle.p9_tree.specs.Server.{Server}
use Rattle.p9_wire.specs.Message.{Rstat}
use Rattle.p9_fids.specs.Fid.{fid_at}
use Rattle.p9_step.specs.State.{Setting, Session, fid_file, fid_ref}
use Rattle.p9_step.specs.Answer.{Answer}
use Rattle.p9_step.specs.Qid.{stat_of}

-- no permission is needed
abbrev pub stat_answer : Setting → List Server → Session → ℕ → Answer
stat_answer setting forest session fid =
    obtain (fid_at fid session.fids) UnknownFid (λ v.
    obtain (fid_file setting.table forest v) PhaseError (λ n.
    Ok (record {
      changes = [];
      session = session;
      reply = Rstat (stat_of (fid_ref setting.table v) n);
    })))

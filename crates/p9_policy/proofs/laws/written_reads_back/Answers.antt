use Rattle.p9_policy.proofs.Written.{written_reads_back}
use Rattle.p9_policy.proofs.laws.written_reads_back.Goals as goal

pub returns : goal.returns
returns c = written_reads_back

use Rattle.p9_fixed_laws.proofs.Alone.{no-reads}
use Rattle.p9_fixed_laws.proofs.laws.no_reads_no_difference.Goals as goal

pub returns : goal.returns
returns c = no-reads

use Rattle.p9_manual_laws.proofs.ReadBack.{written_is_read_back}
use Rattle.p9_manual_laws.proofs.what_was_written_is_read_back.Goals as goal

pub returns : goal.returns
returns c = written_is_read_back

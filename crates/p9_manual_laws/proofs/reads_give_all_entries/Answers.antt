use Rattle.p9_manual_laws.proofs.Listed.{reads_give_all}
use Rattle.p9_manual_laws.proofs.reads_give_all_entries.Goals as goal

pub returns : goal.returns
returns c = reads_give_all

use Rattle.p9_manual_laws.proofs.Stays.{removed_stays_gone}
use Rattle.p9_manual_laws.proofs.a_removed_file_stays_gone.Goals as goal

pub returns : goal.returns
returns c = removed_stays_gone

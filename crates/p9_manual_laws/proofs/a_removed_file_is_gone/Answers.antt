use Rattle.p9_manual_laws.proofs.Gone.{removed_is_gone}
use Rattle.p9_manual_laws.proofs.a_removed_file_is_gone.Goals as goal

pub returns : goal.returns
returns c = removed_is_gone

use Rattle.p9_manual_laws.proofs.Undisturbed.{reads_dont_disturb}
use Rattle.p9_manual_laws.proofs.reads_do_not_disturb_each_other.Goals as goal

pub returns : goal.returns
returns c = reads_dont_disturb

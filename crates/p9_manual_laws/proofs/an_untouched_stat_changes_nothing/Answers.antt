use Rattle.p9_manual_laws.proofs.Untouched.{untouched_changes_nothing}
use Rattle.p9_manual_laws.proofs.an_untouched_stat_changes_nothing.Goals as goal

pub returns : goal.returns
returns c = untouched_changes_nothing

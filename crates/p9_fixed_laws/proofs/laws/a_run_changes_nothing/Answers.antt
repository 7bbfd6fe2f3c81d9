use Rattle.p9_fixed_laws.proofs.Runs.{run-stays}
use Rattle.p9_fixed_laws.proofs.laws.a_run_changes_nothing.Goals as goal

pub returns : goal.returns
returns c = run-stays

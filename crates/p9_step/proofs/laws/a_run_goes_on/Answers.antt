use Rattle.p9_step.proofs.Steps.{run-goes-on}
use Rattle.p9_step.proofs.laws.a_run_goes_on.Goals as goal

pub returns : goal.returns
returns c = run-goes-on

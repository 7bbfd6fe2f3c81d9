use Rattle.p9_step.proofs.Steps.{run-keeps-state}
use Rattle.p9_step.proofs.laws.a_run_keeps_the_state.Goals as goal

pub returns : goal.returns
returns c = run-keeps-state

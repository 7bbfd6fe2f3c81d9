use Rattle.p9_step.proofs.Steps.{step-keeps-state}
use Rattle.p9_step.proofs.laws.a_step_keeps_the_state.Goals as goal

pub returns : goal.returns
returns c = step-keeps-state

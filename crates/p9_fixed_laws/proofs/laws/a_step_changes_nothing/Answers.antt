use Rattle.p9_fixed_laws.proofs.Steps.{step-stays}
use Rattle.p9_fixed_laws.proofs.laws.a_step_changes_nothing.Goals as goal

pub returns : goal.returns
returns c = step-stays

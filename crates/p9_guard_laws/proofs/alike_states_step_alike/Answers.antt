use Rattle.p9_guard_laws.proofs.Headline.{alike_step}
use Rattle.p9_guard_laws.proofs.alike_states_step_alike.Goals as goal

pub returns : goal.returns
returns c = alike_step

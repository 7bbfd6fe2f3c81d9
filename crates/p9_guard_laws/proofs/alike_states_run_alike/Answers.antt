use Rattle.p9_guard_laws.proofs.Headline.{alike_run}
use Rattle.p9_guard_laws.proofs.alike_states_run_alike.Goals as goal

pub returns : goal.returns
returns c = alike_run

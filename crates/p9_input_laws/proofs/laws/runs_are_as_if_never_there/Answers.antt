use Rattle.p9_input_laws.proofs.OuterRuns.{runs-as-if-never-there}
use Rattle.p9_input_laws.proofs.laws.runs_are_as_if_never_there.Goals as goal

pub returns : goal.returns
returns c = runs-as-if-never-there

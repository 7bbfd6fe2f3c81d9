use Rattle.p9_fixed_laws.proofs.Runs.{fixed-begins}
use Rattle.p9_fixed_laws.proofs.laws.a_fixed_export_begins.Goals as goal

pub returns : goal.returns
returns c = fixed-begins

use Rattle.p9_input_laws.proofs.Inputs.{exported-alike}
use Rattle.p9_input_laws.proofs.laws.alike_inputs_are_exported_alike.Goals as goal

pub returns : goal.returns
returns c = exported-alike

use Rattle.p9_input_laws.proofs.Inputs.{prepared-well}
use Rattle.p9_input_laws.proofs.laws.prepared_inputs_are_well_formed.Goals as goal

pub returns : goal.returns
returns c = prepared-well

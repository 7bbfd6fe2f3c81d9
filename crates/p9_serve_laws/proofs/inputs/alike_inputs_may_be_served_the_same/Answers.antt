use Rattle.p9_serve_laws.proofs.Offered.{alike-inputs-may-be-served-the-same}
use Rattle.p9_serve_laws.proofs.inputs.alike_inputs_may_be_served_the_same.Goals as goal

pub returns : goal.returns
returns c = alike-inputs-may-be-served-the-same c.prepared_inputs_are_well_formed.ensures

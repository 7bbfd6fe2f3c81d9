use Rattle.p9_serve_laws.proofs.Offered.{alike-inputs-are-served-the-same}
use Rattle.p9_serve_laws.proofs.inputs.alike_inputs_are_served_the_same.Goals as goal

pub returns : goal.returns
returns c = alike-inputs-are-served-the-same c.prepared_inputs_are_well_formed.ensures

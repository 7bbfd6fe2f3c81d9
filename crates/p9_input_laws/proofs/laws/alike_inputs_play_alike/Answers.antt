use Rattle.p9_input_laws.proofs.Inputs.{played-alike}
use Rattle.p9_input_laws.proofs.laws.alike_inputs_play_alike.Goals as goal

pub returns : goal.returns
returns c = played-alike c.alike_worlds_play_alike.ensures

use Rattle.p9_input_laws.proofs.Witness.{world-is-other}
use Rattle.p9_input_laws.proofs.laws.a_world_is_other_without_insides.Goals as goal

pub returns : goal.returns
returns c = world-is-other

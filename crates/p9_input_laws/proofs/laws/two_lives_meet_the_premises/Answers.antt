use Rattle.p9_input_laws.proofs.Witness.{lives-differ}
use Rattle.p9_input_laws.proofs.laws.two_lives_meet_the_premises.Goals as goal

pub returns : goal.returns
returns c = lives-differ

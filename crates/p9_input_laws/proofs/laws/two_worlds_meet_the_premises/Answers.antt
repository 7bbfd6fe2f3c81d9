use Rattle.p9_input_laws.proofs.Witness.{worlds-differ}
use Rattle.p9_input_laws.proofs.laws.two_worlds_meet_the_premises.Goals as goal

pub returns : goal.returns
returns c = worlds-differ

use Rattle.p9_input_laws.proofs.NeverThere.{worlds-as-if-never-there}
use Rattle.p9_input_laws.proofs.laws.worlds_are_as_if_never_there.Goals as goal

pub returns : goal.returns
returns c = worlds-as-if-never-there

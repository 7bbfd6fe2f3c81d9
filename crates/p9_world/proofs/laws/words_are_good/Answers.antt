use Rattle.p9_world.proofs.WordFaults.{words_are_good}
use Rattle.p9_world.proofs.laws.words_are_good.Goals as goal

pub returns : goal.returns
returns c = words_are_good

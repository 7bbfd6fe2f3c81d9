use Rattle.p9_inside.proofs.Chain.{nothing_inside_itself}
use Rattle.p9_inside.proofs.meaning.nothing_inside_itself.Goals as goal

pub returns : goal.returns
returns c = nothing_inside_itself

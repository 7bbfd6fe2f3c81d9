use Rattle.p9_kept_laws.proofs.Gaps.{gap-alike}
use Rattle.p9_kept_laws.proofs.laws.gaps_are_the_same_of_alike_forests.Goals as goal

pub returns : goal.returns
returns c = gap-alike

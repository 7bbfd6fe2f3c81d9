use Rattle.p9_restricted.proofs.Belonging.{nobody-attaches-as-another}
use Rattle.p9_restricted.proofs.laws.nobody_attaches_as_another.Goals as goal

pub returns : goal.returns
returns c = nobody-attaches-as-another

use Rattle.p9_inside.proofs.TwoForests.{next_in_both}
use Rattle.p9_inside.proofs.two_forests.next_in_both.Goals as goal

pub returns : goal.returns
returns c = next_in_both

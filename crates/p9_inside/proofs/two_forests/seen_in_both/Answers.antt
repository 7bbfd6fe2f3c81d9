use Rattle.p9_inside.proofs.TwoForests.{seen_in_both}
use Rattle.p9_inside.proofs.two_forests.seen_in_both.Goals as goal

pub returns : goal.returns
returns c = seen_in_both

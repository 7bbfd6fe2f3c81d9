use Rattle.p9_inside.proofs.TwoForests.{inside_in_both}
use Rattle.p9_inside.proofs.two_forests.inside_in_both.Goals as goal

pub returns : goal.returns
returns c = inside_in_both

use Rattle.p9_inside.proofs.Forests.{keeps_next}
use Rattle.p9_inside.proofs.lookups.outer_keeps_next.Goals as goal

pub returns : goal.returns
returns c = keeps_next

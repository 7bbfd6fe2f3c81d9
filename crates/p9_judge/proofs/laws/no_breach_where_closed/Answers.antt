use Rattle.p9_judge.proofs.Breaches.{no_breach_where_closed}
use Rattle.p9_judge.proofs.laws.no_breach_where_closed.Goals as goal

pub returns : goal.returns
returns c = no_breach_where_closed

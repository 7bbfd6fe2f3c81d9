use Rattle.p9_serve.proofs.Visits.{each-visit-is-answered}
use Rattle.p9_serve.proofs.laws.each_visit_is_answered.Goals as goal

pub returns : goal.returns
returns g c = each-visit-is-answered

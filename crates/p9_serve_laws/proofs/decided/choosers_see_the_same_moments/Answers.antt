use Rattle.p9_serve_laws.proofs.Moments.{choosers-see-the-same-moments}
use Rattle.p9_serve_laws.proofs.decided.choosers_see_the_same_moments.Goals as goal

pub returns : goal.returns
returns g c = choosers-see-the-same-moments

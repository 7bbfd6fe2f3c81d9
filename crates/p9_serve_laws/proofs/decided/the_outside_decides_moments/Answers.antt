use Rattle.p9_serve_laws.proofs.Moments.{the-outside-decides-moments}
use Rattle.p9_serve_laws.proofs.decided.the_outside_decides_moments.Goals as goal

pub returns : goal.returns
returns g c = the-outside-decides-moments

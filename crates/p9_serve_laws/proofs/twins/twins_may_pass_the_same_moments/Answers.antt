use Rattle.p9_serve_laws.proofs.Likewise.{twins-may-pass-the-same-moments}
use Rattle.p9_serve_laws.proofs.twins.twins_may_pass_the_same_moments.Goals as goal

pub returns : goal.returns
returns g c = twins-may-pass-the-same-moments

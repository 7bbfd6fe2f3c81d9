use Rattle.p9_serve_laws.proofs.Likewise.{twins-may-have-the-same-round}
use Rattle.p9_serve_laws.proofs.twins.twins_may_have_the_same_round.Goals as goal

pub returns : goal.returns
returns g c = twins-may-have-the-same-round

use Rattle.p9_serve_laws.proofs.Likewise.{twins-may-end-the-same}
use Rattle.p9_serve_laws.proofs.twins.twins_may_end_the_same.Goals as goal

pub returns : goal.returns
returns g c = twins-may-end-the-same

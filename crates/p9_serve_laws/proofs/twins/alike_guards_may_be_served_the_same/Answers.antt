use Rattle.p9_serve_laws.proofs.Likewise.{alike-guards-may-be-served-the-same}
use Rattle.p9_serve_laws.proofs.twins.alike_guards_may_be_served_the_same.Goals as goal

pub returns : goal.returns
returns g c = alike-guards-may-be-served-the-same

use Rattle.p9_serve_laws.proofs.Begins.{twins-are-beside}
use Rattle.p9_serve_laws.proofs.beside.twins_are_beside.Goals as goal

pub returns : goal.returns
returns g c = twins-are-beside

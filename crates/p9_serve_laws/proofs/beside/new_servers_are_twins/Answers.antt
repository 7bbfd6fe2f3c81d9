use Rattle.p9_serve_laws.proofs.Begins.{new-servers-are-twins}
use Rattle.p9_serve_laws.proofs.beside.new_servers_are_twins.Goals as goal

pub returns : goal.returns
returns g c = new-servers-are-twins

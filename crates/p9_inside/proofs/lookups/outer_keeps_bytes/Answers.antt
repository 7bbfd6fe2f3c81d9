use Rattle.p9_inside.proofs.Outer.{server_keeps_bytes}
use Rattle.p9_inside.proofs.Forests.{keeps_bytes}
use Rattle.p9_inside.proofs.lookups.outer_keeps_bytes.Goals as goal

pub returns-clause-server : goal.returns-clause-server
returns-clause-server c = server_keeps_bytes

pub returns-clause-forest : goal.returns-clause-forest
returns-clause-forest c = keeps_bytes

use Rattle.p9_inside.proofs.Outer.{server_keeps_child}
use Rattle.p9_inside.proofs.Forests.{keeps_child}
use Rattle.p9_inside.proofs.lookups.outer_keeps_child.Goals as goal

pub returns-clause-server : goal.returns-clause-server
returns-clause-server c = server_keeps_child

pub returns-clause-forest : goal.returns-clause-forest
returns-clause-forest c = keeps_child

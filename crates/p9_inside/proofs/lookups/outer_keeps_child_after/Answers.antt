use Rattle.p9_inside.proofs.Outer.{server_keeps_child_after}
use Rattle.p9_inside.proofs.Forests.{keeps_child_after}
use Rattle.p9_inside.proofs.lookups.outer_keeps_child_after.Goals as goal

pub returns-clause-server : goal.returns-clause-server
returns-clause-server c = server_keeps_child_after

pub returns-clause-forest : goal.returns-clause-forest
returns-clause-forest c = keeps_child_after

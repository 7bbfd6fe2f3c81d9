use Rattle.p9_inside.proofs.Spared.{server_parent_decides}
use Rattle.p9_inside.proofs.SparedForests.{parent_decides}
use Rattle.p9_inside.proofs.changes.parent_decides.Goals as goal

pub returns-clause-server : goal.returns-clause-server
returns-clause-server c = server_parent_decides

pub returns-clause-forest : goal.returns-clause-forest
returns-clause-forest c = parent_decides

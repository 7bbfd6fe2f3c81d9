use Rattle.p9_inside.proofs.Chain.{server_only_nodes_hide}
use Rattle.p9_inside.proofs.Forests.{only_nodes_hide}
use Rattle.p9_inside.proofs.meaning.only_nodes_hide.Goals as goal

pub returns-clause-server : goal.returns-clause-server
returns-clause-server c = server_only_nodes_hide

pub returns-clause-forest : goal.returns-clause-forest
returns-clause-forest c = only_nodes_hide

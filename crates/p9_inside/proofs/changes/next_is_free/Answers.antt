use Rattle.p9_inside.proofs.Spared.{server_next_is_free}
use Rattle.p9_inside.proofs.SparedForests.{next_is_free}
use Rattle.p9_inside.proofs.changes.next_is_free.Goals as goal

pub returns-clause-server : goal.returns-clause-server
returns-clause-server c = server_next_is_free

pub returns-clause-forest : goal.returns-clause-forest
returns-clause-forest c = next_is_free

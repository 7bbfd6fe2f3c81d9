use Rattle.p9_inside.proofs.Spared.{server_drop_spares}
use Rattle.p9_inside.proofs.SparedForests.{drop_spares}
use Rattle.p9_inside.proofs.changes.drop_spares_insides.Goals as goal

pub returns-clause-server : goal.returns-clause-server
returns-clause-server c = server_drop_spares

pub returns-clause-forest : goal.returns-clause-forest
returns-clause-forest c = drop_spares

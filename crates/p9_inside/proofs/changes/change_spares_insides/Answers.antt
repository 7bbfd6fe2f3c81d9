use Rattle.p9_inside.proofs.Spared.{server_change_spares}
use Rattle.p9_inside.proofs.SparedForests.{change_spares}
use Rattle.p9_inside.proofs.changes.change_spares_insides.Goals as goal

pub returns-clause-server : goal.returns-clause-server
returns-clause-server c = server_change_spares

pub returns-clause-forest : goal.returns-clause-forest
returns-clause-forest c = change_spares

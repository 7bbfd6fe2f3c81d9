use Rattle.p9_inside.proofs.Spared.{server_add_spares}
use Rattle.p9_inside.proofs.SparedForests.{add_spares, new_spares}
use Rattle.p9_inside.proofs.changes.add_spares_insides.Goals as goal

pub returns-clause-server : goal.returns-clause-server
returns-clause-server c = server_add_spares

pub returns-clause-forest : goal.returns-clause-forest
returns-clause-forest c = add_spares

pub returns-clause-new : goal.returns-clause-new
returns-clause-new c = new_spares

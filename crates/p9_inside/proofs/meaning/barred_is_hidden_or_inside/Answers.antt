use Rattle.p9_inside.proofs.Chain.{server_barred_is_hidden_or_inside}
use Rattle.p9_inside.proofs.Forests.{barred_is_hidden_or_inside}
use Rattle.p9_inside.proofs.meaning.barred_is_hidden_or_inside.Goals as goal

pub returns-clause-server : goal.returns-clause-server
returns-clause-server c = server_barred_is_hidden_or_inside

pub returns-clause-forest : goal.returns-clause-forest
returns-clause-forest c = barred_is_hidden_or_inside

use Rattle.p9_inside.proofs.Chain.{server_pass_is_chain}
use Rattle.p9_inside.proofs.Forests.{pass_is_chain}
use Rattle.p9_inside.proofs.meaning.pass_is_chain.Goals as goal

pub returns-clause-server : goal.returns-clause-server
returns-clause-server c = server_pass_is_chain

pub returns-clause-forest : goal.returns-clause-forest
returns-clause-forest c = pass_is_chain

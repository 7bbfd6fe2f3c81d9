use Rattle.p9_inside.proofs.Outer.{server_insides_are_split}
use Rattle.p9_inside.proofs.Forests.{insides_are_split}
use Rattle.p9_inside.proofs.meaning.insides_are_split.Goals as goal

pub returns-clause-server : goal.returns-clause-server
returns-clause-server c = server_insides_are_split

pub returns-clause-forest : goal.returns-clause-forest
returns-clause-forest c = insides_are_split

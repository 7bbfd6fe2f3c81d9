use Rattle.p9_guard.proofs.Sentences.{promises-join}
use Rattle.p9_guard.proofs.laws.promises_join.Goals as goal

pub returns : goal.returns
returns c = promises-join

use Rattle.p9_guard.proofs.Sentences.{every-run-is-promised}
use Rattle.p9_guard.proofs.laws.every_run_is_promised.Goals as goal

pub returns : goal.returns
returns c = every-run-is-promised

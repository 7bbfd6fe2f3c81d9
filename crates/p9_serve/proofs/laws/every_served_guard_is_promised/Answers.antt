use Rattle.p9_serve.proofs.Whole.{every-served-guard-is-promised}
use Rattle.p9_serve.proofs.laws.every_served_guard_is_promised.Goals as goal

pub returns : goal.returns
returns g c = every-served-guard-is-promised

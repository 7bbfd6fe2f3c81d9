use Rattle.p9_serve.proofs.Lives.{every-life-is-promised}
use Rattle.p9_serve.proofs.laws.every_life_is_promised.Goals as goal

pub returns : goal.returns
returns g c = every-life-is-promised

use Rattle.p9_serve.proofs.Whole.{every-serving-is-promised}
use Rattle.p9_serve.proofs.laws.every_serving_is_promised.Goals as goal

pub returns : goal.returns
returns c = every-serving-is-promised

use Rattle.p9_fixed_laws.proofs.Own.{others-dont-show}
use Rattle.p9_fixed_laws.proofs.laws.others_do_not_show.Goals as goal

pub returns : goal.returns
returns c = others-dont-show

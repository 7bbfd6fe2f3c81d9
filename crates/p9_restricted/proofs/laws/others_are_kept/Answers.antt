use Rattle.p9_restricted.proofs.MaskedMessages.{others-are-kept}
use Rattle.p9_restricted.proofs.laws.others_are_kept.Goals as goal

pub returns : goal.returns
returns c = others-are-kept

use Rattle.p9_serve_laws.proofs.Rounds.{choosers-are-served-the-same}
use Rattle.p9_serve_laws.proofs.decided.choosers_are_served_the_same.Goals as goal

pub returns : goal.returns
returns g c = choosers-are-served-the-same

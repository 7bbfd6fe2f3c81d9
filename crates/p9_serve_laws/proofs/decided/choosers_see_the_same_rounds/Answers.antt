use Rattle.p9_serve_laws.proofs.Rounds.{choosers-see-the-same-rounds}
use Rattle.p9_serve_laws.proofs.decided.choosers_see_the_same_rounds.Goals as goal

pub returns : goal.returns
returns g c = choosers-see-the-same-rounds

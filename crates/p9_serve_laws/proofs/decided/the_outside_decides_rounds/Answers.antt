use Rattle.p9_serve_laws.proofs.Rounds.{the-outside-decides-rounds}
use Rattle.p9_serve_laws.proofs.decided.the_outside_decides_rounds.Goals as goal

pub returns : goal.returns
returns g c = the-outside-decides-rounds

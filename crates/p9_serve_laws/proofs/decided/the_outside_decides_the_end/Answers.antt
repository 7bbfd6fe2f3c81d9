use Rattle.p9_serve_laws.proofs.Rounds.{the-outside-decides-the-end}
use Rattle.p9_serve_laws.proofs.decided.the_outside_decides_the_end.Goals as goal

pub returns : goal.returns
returns g c = the-outside-decides-the-end

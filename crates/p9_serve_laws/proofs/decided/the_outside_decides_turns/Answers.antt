use Rattle.p9_serve_laws.proofs.Rounds.{the-outside-decides-turns}
use Rattle.p9_serve_laws.proofs.decided.the_outside_decides_turns.Goals as goal

pub returns : goal.returns
returns g c = the-outside-decides-turns

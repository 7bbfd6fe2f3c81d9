use Rattle.p9_input_laws.proofs.Lives.{sealing-never-fails}
use Rattle.p9_input_laws.proofs.laws.sealing_again_never_fails.Goals as goal

pub returns : goal.returns
returns g c = sealing-never-fails g.row.A.Denot

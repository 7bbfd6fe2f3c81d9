use Rattle.p9_input_laws.proofs.Lives.{lives-change-nothing}
use Rattle.p9_input_laws.proofs.laws.lives_change_nothing_inside.Goals as goal

pub returns : goal.returns
returns g c = lives-change-nothing g.row.A.Denot

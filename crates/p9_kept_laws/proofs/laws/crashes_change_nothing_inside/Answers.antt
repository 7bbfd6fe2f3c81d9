use Rattle.p9_kept_laws.proofs.Lives.{crashes-spare}
use Rattle.p9_kept_laws.proofs.laws.crashes_change_nothing_inside.Goals as goal

pub returns : goal.returns
returns g c = crashes-spare g.row.A.Denot c.lives_change_nothing_inside.ensures

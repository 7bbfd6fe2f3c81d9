use Rattle.p9_input_laws.proofs.Lives.{guarded-sealed}
use Rattle.p9_input_laws.proofs.laws.guarded_states_can_be_sealed.Goals as goal

pub returns : goal.returns
returns g c = guarded-sealed g.row.A.Denot

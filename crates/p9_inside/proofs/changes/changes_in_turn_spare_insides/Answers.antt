use Rattle.p9_inside.proofs.SparedForests.{in_turn_spares}
use Rattle.p9_inside.proofs.changes.changes_in_turn_spare_insides.Goals as goal

pub returns : goal.returns
returns c = in_turn_spares

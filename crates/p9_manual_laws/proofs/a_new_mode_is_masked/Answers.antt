use Rattle.p9_manual_laws.proofs.Masks.{new_mode_is_masked}
use Rattle.p9_manual_laws.proofs.a_new_mode_is_masked.Goals as goal

pub returns : goal.returns
returns c = new_mode_is_masked

use Rattle.p9_guard_laws.proofs.Begins.{certified_is_guarded}
use Rattle.p9_guard_laws.proofs.a_certified_state_is_guarded.Goals as goal

pub returns : goal.returns
returns c = certified_is_guarded

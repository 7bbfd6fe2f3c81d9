use Rattle.p9_guard_laws.proofs.Guards.{alike_guarded}
use Rattle.p9_guard_laws.proofs.an_alike_state_is_guarded.Goals as goal

pub returns : goal.returns
returns c = alike_guarded

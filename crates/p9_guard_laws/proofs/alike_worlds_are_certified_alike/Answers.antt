use Rattle.p9_guard_laws.proofs.Begins.{alike_closed}
use Rattle.p9_guard_laws.proofs.alike_worlds_are_certified_alike.Goals as goal

pub returns : goal.returns
returns c = alike_closed

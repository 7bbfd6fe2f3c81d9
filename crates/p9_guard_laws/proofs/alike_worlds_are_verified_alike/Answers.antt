use Rattle.p9_guard_laws.proofs.Begins.{alike_verified}
use Rattle.p9_guard_laws.proofs.alike_worlds_are_verified_alike.Goals as goal

pub returns : goal.returns
returns c = alike_verified

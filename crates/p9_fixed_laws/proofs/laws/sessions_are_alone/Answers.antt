use Rattle.p9_fixed_laws.proofs.Own.{sessions-alone}
use Rattle.p9_fixed_laws.proofs.laws.sessions_are_alone.Goals as goal

pub returns : goal.returns
returns c = sessions-alone

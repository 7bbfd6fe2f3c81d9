use Rattle.p9_play.proofs.Machines.{state_is}
use Rattle.p9_play.proofs.machine.GuardMachine.close.Goals as goal

pub returns : goal.returns
returns g c = state_is _ _ _ _ _ _ c.close.ensures.promised

use Rattle.p9_play.proofs.Machines.{reply_is, state_is}
use Rattle.p9_play.proofs.machine.GuardMachine.answer.Goals as goal

pub returns-clause-state : goal.returns-clause-state
returns-clause-state g c = state_is _ _ _ _ _ _ c.answer.ensures.promised

pub returns-clause-bytes : goal.returns-clause-bytes
returns-clause-bytes g c = reply_is _ _ _ _ _ _ c.answer.ensures.promised

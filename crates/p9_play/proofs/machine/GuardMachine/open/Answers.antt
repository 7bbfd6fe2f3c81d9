use Rattle.p9_play.proofs.Machines.{not_opened, opened}
use Rattle.p9_play.proofs.machine.GuardMachine.open.Goals as goal

pub returns-clause-ok : goal.returns-clause-ok
returns-clause-ok g c =
    opened _ c.args.self.now.state c.open.new.self.state c.args.name c.open.result
    c.open.ensures.live c.open.ensures.promised

pub returns-clause-unchanged : goal.returns-clause-unchanged
returns-clause-unchanged g c =
    not_opened _ c.args.self.now.state c.open.new.self.state c.args.name c.open.result
    c.open.ensures.live c.open.ensures.promised

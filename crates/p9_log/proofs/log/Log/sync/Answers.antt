use Rattle.p9_log.proofs.Outcomes.{as_seen}
use Rattle.p9_log.proofs.log.Log.sync.Goals as goal

pub returns-then-not-self-2-clause-outcomes : goal.returns-then-not-self-2-clause-outcomes
returns-then-not-self-2-clause-outcomes g c =
    let self = c.args.self.now in
    as_seen (g.D.Device.seen self.device) self.kept self.end (g.D.Device.may_leave self.device)
    (self.at_rest c.if-not-self.false) (self.durable c.if-not-self.false) (g.met.D.Device.alive self.device)

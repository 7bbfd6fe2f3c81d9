use Rattle.std.proofs.Common.{◌+◌}
use Rattle.p9_log.proofs.Outcomes.{as_seen}
use Rattle.p9_log.proofs.log.Log.at_rest.Goals as goal

pub returns-clause-outcomes : goal.returns-clause-outcomes
returns-clause-outcomes g c =
    as_seen (g.D.Device.seen c.args.device) c.args.kept (c.args.kept + 10) (g.D.Device.may_leave c.args.device)
    c.requires.rest c.requires.front (g.met.D.Device.alive c.args.device)

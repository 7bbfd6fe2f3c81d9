use Rattle.p9_log.proofs.Cuts.{after-cut, after-all}
use Rattle.p9_log.proofs.repair.cut_to.Goals as goal

pub returns-in_err-cut-clause-any_moment : goal.returns-in_err-cut-clause-any_moment
returns-in_err-cut-clause-any_moment g c =
    after-cut g.D.Device.seen g.D.Device.moment g.D.Device.may_leave g.D.Device.left_since g.met.D.Device.alive g.met.D.Device.counts_now
    c.args.len c.args.device.now c.cut.new.self c.requires.len c.requires.durable c.cut.ensures.crash

pub returns-clause-any_moment : goal.returns-clause-any_moment
returns-clause-any_moment g c =
    after-all g.D.Device.seen g.D.Device.moment g.D.Device.may_leave g.D.Device.left_since g.met.D.Device.alive g.met.D.Device.counts_now
    c.args.len c.args.device.now c.cut.new.self c.requires.len c.requires.durable c.cut.ensures.crash
    c.sync.new.self c.sync.ensures.crash

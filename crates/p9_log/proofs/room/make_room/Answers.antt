use Rattle.p9_log.specs.Device.{IsSameTo}
use Rattle.p9_log.proofs.Lifted.{lifted-so}
use Rattle.p9_log.proofs.Writes.{written-same}
use Rattle.p9_log.proofs.room.make_room.Goals as goal

pub returns-in_err-write_at-clause-crash : goal.returns-in_err-write_at-clause-crash
returns-in_err-write_at-clause-crash g c how =
    let D = g.D.Device in
    lifted-so (λ file. file) D.moment D.may_leave D.left_since how _ (IsSameTo c.args.len) c.args.device.now c.write_at.new.self
    (c.write_at.ensures.crash how) (λ old new. written-same how c.args.len _ old new)

pub returns-clause-crash : goal.returns-clause-crash
returns-clause-crash g c how =
    let D = g.D.Device in
    lifted-so (λ file. file) D.moment D.may_leave D.left_since how _ (IsSameTo c.args.len) c.args.device.now c.write_at.new.self
    (c.write_at.ensures.crash how) (λ old new. written-same how c.args.len _ old new)

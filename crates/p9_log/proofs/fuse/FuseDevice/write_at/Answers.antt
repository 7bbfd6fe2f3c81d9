use Rattle.std.proofs.Common.{length, ◌≤◌, arith, take}
use Rattle.p9_log.specs.Device.{IsWritten}
use Rattle.p9_log.proofs.Lifted.{lifted, lifted-so, short-write}
use Rattle.p9_log.proofs.fuse.FuseDevice.write_at.Goals as goal

pub returns-in-Ok-clause-crash : goal.returns-in-Ok-clause-crash
returns-in-Ok-clause-crash g c how =
    lifted (λ f. f.device) g.D.Device.moment g.D.Device.may_leave g.D.Device.left_since how (IsWritten how c.args.at c.args.bytes.now) c.args.self.now _
    (c.write_at.ensures.crash how)

pub returns-in-Err-clause-crash : goal.returns-in-Err-clause-crash
returns-in-Err-clause-crash g c how =
    let n = c.min-written.result in
    let le : n ≤ length c.args.bytes.now = omega (arith, c.min-written.ensures) in
    lifted-so (λ f. f.device) g.D.Device.moment g.D.Device.may_leave g.D.Device.left_since how (IsWritten how c.args.at (take n c.args.bytes.now)) (IsWritten how c.args.at c.args.bytes.now)
    c.args.self.now _ (c.write_at-in-Err.ensures.crash how) (λ d file. short-write how c.args.at n c.args.bytes.now d file le)

use Rattle.p9_log.specs.Device.{IsSame}
use Rattle.p9_log.proofs.Lifted.{lifted}
use Rattle.p9_log.proofs.fuse.FuseDevice.add_to_draft.Goals as goal

pub returns-in-Ok-clause-crash : goal.returns-in-Ok-clause-crash
returns-in-Ok-clause-crash g c how =
    lifted (λ f. f.device) g.D.Device.moment g.D.Device.may_leave g.D.Device.left_since how IsSame c.args.self.now _
    (c.add_to_draft.ensures.crash how)

pub returns-in-Err-clause-crash : goal.returns-in-Err-clause-crash
returns-in-Err-clause-crash g c how =
    lifted (λ f. f.device) g.D.Device.moment g.D.Device.may_leave g.D.Device.left_since how IsSame c.args.self.now _
    (c.add_to_draft-in-Err.ensures.crash how)

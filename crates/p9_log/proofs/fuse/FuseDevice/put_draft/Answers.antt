use Rattle.p9_log.specs.Device.{IsPut}
use Rattle.p9_log.proofs.Lifted.{lifted}
use Rattle.p9_log.proofs.fuse.FuseDevice.put_draft.Goals as goal

pub returns-clause-crash : goal.returns-clause-crash
returns-clause-crash g c how =
    lifted (λ f. f.device) g.D.Device.moment g.D.Device.may_leave g.D.Device.left_since how (IsPut (g.D.Device.drafted c.args.self.now.device)) c.args.self.now _
    (c.put_draft.ensures.crash how)

use Rattle.p9_log.specs.Device.{IsSame}
use Rattle.p9_disk.proofs.Moments.{lifted}
use Rattle.p9_disk.proofs.file_device.FileDeviceDevice.add_to_draft.Goals as goal

pub returns-clause-crash : goal.returns-clause-crash
returns-clause-crash c how =
    lifted (λ f. f.calls.events) how IsSame c.args.self.now _ (c.add_all-answer.ensures.crash how)

use Rattle.p9_log.specs.Device.{IsWritten}
use Rattle.p9_disk.proofs.Moments.{lifted}
use Rattle.p9_disk.proofs.file_device.FileDeviceDevice.write_at.Goals as goal

pub returns-clause-crash : goal.returns-clause-crash
returns-clause-crash c how =
    lifted (λ f. f.calls.events) how (IsWritten how c.args.at c.args.bytes.now) c.args.self.now _ (c.write_all-answer.ensures.crash how)

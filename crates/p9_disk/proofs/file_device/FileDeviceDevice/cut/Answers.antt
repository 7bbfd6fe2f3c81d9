use Rattle.std.proofs.Common.{refl}
use Rattle.p9_log.specs.Device.{IsCut}
use Rattle.p9_disk.specs.Events.{cut_failed, cut_to}
use Rattle.p9_disk.proofs.Moments.{ended, lifted}
use Rattle.p9_disk.proofs.file_device.FileDeviceDevice.cut.Goals as goal

pub returns-clause-crash : goal.returns-clause-crash
returns-clause-crash c how =
    let old = c.args.self.now in
    let new = c.noted.new.self in
    lifted (λ f. f.calls.events) how (IsCut how c.args.len) old new
    (ended c.noted.result how (cut_to c.args.len) (cut_failed c.args.len) old.calls.events new.calls.events refl c.noted.ensures.ok c.noted.ensures.err)

use Rattle.std.proofs.Common.{refl}
use Rattle.p9_log.specs.Device.{IsSame}
use Rattle.p9_disk.specs.Events.{sync_failed, synced}
use Rattle.p9_disk.proofs.Moments.{ended, lifted}
use Rattle.p9_disk.proofs.file_device.FileDeviceDevice.sync.Goals as goal

pub returns-clause-crash : goal.returns-clause-crash
returns-clause-crash c how =
    let old = c.args.self.now in
    let new = c.noted-2.new.self in
    lifted (λ f. f.calls.events) how IsSame old new
    (ended c.noted-2.result how synced sync_failed old.calls.events new.calls.events refl c.noted-2.ensures.ok c.noted-2.ensures.err)

pub returns-then-self-clause-crash : goal.returns-then-self-clause-crash
returns-then-self-clause-crash c how =
    let old = c.args.self.now in
    let new = c.noted.new.self in
    lifted (λ f. f.calls.events) how IsSame old new
    (ended c.noted.result how synced sync_failed old.calls.events new.calls.events refl c.noted.ensures.ok c.noted.ensures.err)

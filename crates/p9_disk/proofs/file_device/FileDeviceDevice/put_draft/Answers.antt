use Rattle.std.proofs.Common.{refl}
use Rattle.p9_log.specs.Device.{IsPut}
use Rattle.p9_disk.specs.Events.{draft_put, draft_renamed, drafted, put_failed}
use Rattle.p9_disk.proofs.Moments.{ended, lifted}
use Rattle.p9_disk.proofs.file_device.FileDeviceDevice.put_draft.Goals as goal

pub returns-clause-crash : goal.returns-clause-crash
returns-clause-crash c how =
    let old = c.args.self.now in
    let call = c.noted-2 in
    lifted (λ f. f.calls.events) how (IsPut (drafted old.calls.events)) old call.new.self
    (ended call.result how draft_put draft_renamed old.calls.events call.new.self.calls.events refl call.ensures.ok call.ensures.err)

pub returns-then-self-clause-crash : goal.returns-then-self-clause-crash
returns-then-self-clause-crash c how =
    let old = c.args.self.now in
    let call = c.noted in
    lifted (λ f. f.calls.events) how (IsPut (drafted old.calls.events)) old call.new.self
    (ended call.result how draft_put put_failed old.calls.events call.new.self.calls.events refl call.ensures.ok call.ensures.err)

pub returns-in-None-clause-crash : goal.returns-in-None-clause-crash
returns-in-None-clause-crash c how =
    let old = c.args.self.now in
    let call = c.noted-in-None in
    lifted (λ f. f.calls.events) how (IsPut (drafted old.calls.events)) old call.new.self
    (ended call.result how draft_put put_failed old.calls.events call.new.self.calls.events refl call.ensures.ok call.ensures.err)

pub returns-then-is_err-clause-crash : goal.returns-then-is_err-clause-crash
returns-then-is_err-clause-crash c how =
    let old = c.args.self.now in
    let call = c.noted-then-is_err in
    lifted (λ f. f.calls.events) how (IsPut (drafted old.calls.events)) old call.new.self
    (ended call.result how draft_put put_failed old.calls.events call.new.self.calls.events refl call.ensures.ok call.ensures.err)

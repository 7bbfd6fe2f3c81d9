use Rattle.std.proofs.Common.{◌∙◌, ◌||◌, Bool, ap, sym}
use Rattle.p9_disk.specs.Events.{is_unsure}
use Rattle.p9_disk.proofs.file_device.FileDevice.note.Goals.{else-is_failed_sync, then-is_failed_sync}
use Rattle.p9_disk.proofs.file_device.FileDevice.note.Goals as goal

pub invariant_of-self-clause-unsure : goal.invariant_of-self-clause-unsure
invariant_of-self-clause-unsure c =
    let old = c.args.self.now.calls.events in
    let is = ap is_unsure c.with-self.ensures in
    elim c.if-is_failed_sync.branch [
      | then-is_failed_sync w ↦ w.self-is ∙ w.if-is_failed_sync.true ∙ sym (is ∙ ap (λ (b : Bool). b || is_unsure old) (sym c.is_failed_sync.ensures ∙ w.if-is_failed_sync.true))
      | else-is_failed_sync w ↦ w.self-is ∙ c.args.self.now.unsure ∙ sym (is ∙ ap (λ (b : Bool). b || is_unsure old) (sym c.is_failed_sync.ensures ∙ w.if-is_failed_sync.false))
    ]

use Rattle.std.proofs.Common.{◌+◌, ◌-◌, ◌≤◌, ◌∙◌, ap, length, drop, arith, length-drop, length-take, subst, sym}
use Rattle.p9_log.specs.Device.{IsWritten}
use Rattle.p9_disk.specs.Crashes.{Goes}
use Rattle.p9_disk.specs.Events.{is_unsure, write_failed}
use Rattle.p9_disk.proofs.Effects.{not_written}
use Rattle.p9_disk.proofs.Moments.{goes_on, stays}
use Rattle.p9_disk.proofs.Pieces.{failed-piece, wrote-piece}
use Rattle.p9_disk.proofs.writing.write_all.Goals as goal

pub loop-done-preserved : goal.loop-done-preserved
loop-done-preserved c =
    let i = c.loop-done.invariant in
    let k = c.loop-done.done in
    let bytes = c.args.bytes.now in
    let fits : k + c.in-Ok.n ≤ length bytes =
    omega (arith, i.0, c.in-Ok.ensures.1, length-take (length bytes - k) (drop k bytes), length-drop k bytes) in
    let next = wrote-piece c.args.at k bytes c.args.calls.now.events c.loop-done.calls.events c.requires i.2 i.3 c.in-Ok.n c.with-in-Ok.result.events fits c.with-in-Ok.ensures in
    (fits, i.1, next.0, next.1, next.2 ∙ i.4, ap is_unsure c.with-in-Ok.ensures ∙ i.5)

pub returns-in-Err-clause-crash : goal.returns-in-Err-clause-crash
returns-in-Err-clause-crash c =
    let i = c.loop-done.invariant in
    let k = c.loop-done.done in
    let bytes = c.args.bytes.now in
    failed-piece c.args.at k bytes c.args.calls.now.events c.loop-done.calls.events c.requires i.2 i.3 (length bytes - k) c.with-in-Err.result.events (omega (arith, i.0)) c.with-in-Err.ensures

pub returns-then-at-ge-MOST-clause-crash : goal.returns-then-at-ge-MOST-clause-crash
returns-then-at-ge-MOST-clause-crash c how =
    let step = IsWritten how c.args.at c.args.bytes.now in
    let old = c.args.calls.now.events in
    subst (Goes how step old) (sym c.with.ensures)
    (goes_on how step old old (write_failed c.args.at c.args.bytes.now)
    (stays how step old (λ file. not_written how c.args.at c.args.bytes.now file)) (λ f in_it. in_it))

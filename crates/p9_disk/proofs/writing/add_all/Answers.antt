use Rattle.std.proofs.Common.{◌+◌, ◌-◌, ◌≤◌, ◌∙◌, ◌++◌, ap, length, take, drop, arith, length-drop, length-take}
use Rattle.p9_disk.specs.Events.{draft_added, draft_failed, drafted, faults, is_unsure, seen}
use Rattle.p9_disk.proofs.Pieces.{drafted-piece, same-again}
use Rattle.p9_disk.proofs.writing.add_all.Goals as goal

pub loop-done-preserved : goal.loop-done-preserved
loop-done-preserved c =
    let i = c.loop-done.invariant in
    let k = c.loop-done.done in
    let bytes = c.args.bytes.now in
    let n = c.in-Ok.n in
    let piece = take (k + n - k) (drop k bytes) in
    let fits : k + n ≤ length bytes =
    omega (arith, i.0, c.in-Ok.ensures.1, length-take (length bytes - k) (drop k bytes), length-drop k bytes) in (
      fits,
      ap drafted c.with.ensures ∙ ap (λ bs. bs ++ piece) i.1 ∙ drafted-piece (drafted c.args.calls.now.events) k n bytes i.0,
      ap seen c.with.ensures ∙ i.2,
      λ how. same-again how c.args.calls.now.events c.loop-done.calls.events c.with.result.events (draft_added piece) (i.3 how) c.with.ensures (λ d f same. same),
      ap faults c.with.ensures ∙ i.4,
      ap is_unsure c.with.ensures ∙ i.5,
    )

pub returns-in-Err-clause-crash : goal.returns-in-Err-clause-crash
returns-in-Err-clause-crash c how =
    let i = c.loop-done.invariant in
    same-again how c.args.calls.now.events c.loop-done.calls.events c.with-in-Err.result.events draft_failed (i.3 how) c.with-in-Err.ensures (λ d f same. same)

use Rattle.std.proofs.Common.{◌+◌, Result, Ok, map, ap, ◌∙◌, arith}
use Rattle.std.specs.List.{enumerate_from}
use Rattle.std.proofs.lemmas.Result.{err_from_is_err_and}
use Rattle.p9_base.specs.Line.{lines_of}
use Rattle.p9_base.specs.Results.{and_then}
use Rattle.p9_prepared.specs.Bundle.{Reading, Texts, reading_of, unread}
use Rattle.p9_prepared.proofs.Bundles.{line-fault}
use Rattle.p9_prepared.proofs.Parts.{kept-end, kept-more, same-start}
use Rattle.p9_prepared.proofs.bundle.split_bundle.Goals as goal

pub loop-position-init : goal.loop-position-init
loop-position-init g c = (unread.texts, same-start (enumerate_from 1 (lines_of c.args.text.now)) c.new-reader.result c.new-reader.ensures.last, c.new-reader.ensures.unread)

pub loop-position-preserved : goal.loop-position-preserved
loop-position-preserved g c =
    let same =
    ap (map (λ line. line.now)) c.deref-line-items.ensures.value ∙ c.in_ok-lines.ensures in
    let kept = c.loop-position.invariant in
    let more =
    kept-more c.args.text.now c.deref-line-items.result.now same c.loop-position.reader
    c.loop-position.position kept.0 _ _ c.read_line.new.self c.loop-position-test.true
    c.in_ok-read_line.ensures.ok (kept.1, kept.2) in
    (more.0, more.1.0, more.1.1)

pub returns-in_err-read_line-clause-bad : goal.returns-in_err-read_line-clause-bad
returns-in_err-read_line-clause-bad g c =
    let same =
    ap (map (λ line. line.now)) c.deref-line-items.ensures.value ∙ c.in_ok-lines.ensures in
    let r = c.from_residual-in_err-read_line in
    let p = err_from_is_err_and r.result r.ensures.1 in
    let kept = c.loop-position.invariant in
    rw (p.1, p.2)
    (line-fault c.deref-line-items.result.now (lines_of c.args.text.now) same
    (reading_of c.loop-position.reader kept.0) c.loop-position.position _ _ _
    c.loop-position-test.true (c.in_err-read_line.ensures.bad kept.0) kept.1)

pub returns-clause-ok : goal.returns-clause-ok
returns-clause-ok g c =
    let same =
    ap (map (λ line. line.now)) c.deref-line-items.ensures.value ∙ c.in_ok-lines.ensures in
    let kept = c.loop-position.invariant in
    let end =
    kept-end c.args.text.now c.deref-line-items.result.now same c.loop-position.reader
    c.loop-position.position kept.0 _ (omega arith) (kept.1, kept.2) in (
      kept.0,
      ap (λ all. and_then all
          (λ (reading : Reading). let read : Result Texts _ = Ok reading.texts in read)) end.0,
      c.bundle.ensures c.args.text.now (c.loop-position.position + 1) kept.0 end.1,
    )

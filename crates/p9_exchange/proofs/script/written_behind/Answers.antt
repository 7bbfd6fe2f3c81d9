use Rattle.std.proofs.Common.{ap, Result, Ok}
use Rattle.std.proofs.lemmas.Result.{err_from_is_err_and}
use Rattle.p9_base.specs.Results.{and_then}
use Rattle.p9_exchange.specs.Script.{Written, with_line, written_behind, writer_view}
use Rattle.p9_exchange.specs.declared.refusal.Refusal.{Refusal}
use Rattle.p9_exchange.proofs.Numbered.{line-taken, line-stops, lines-end}
use Rattle.p9_exchange.proofs.script.written_behind.Goals as goal

pub loop-position-preserved : goal.loop-position-preserved
loop-position-preserved g c =
    line-taken with_line c.args.lines.now (writer_view c.loop-position.writer)
    c.loop-position.position _ _ _ c.loop-position-test.true c.in_ok-write.ensures.ok
    c.loop-position.invariant

pub returns-in_err-write : goal.returns-in_err-write
unfolding written_behind
returns-in_err-write g c =
    let r = c.from_residual in
    let p = err_from_is_err_and r.result r.ensures.1 in
    rw (p.1, p.2)
    (line-stops with_line c.args.lines.now (writer_view c.loop-position.writer)
    c.loop-position.position
    (λ (w : Written). let text : Result _ Refusal = Ok w.text in text) _ _ _
    c.loop-position-test.true c.in_err-write.ensures.stop c.loop-position.invariant)

pub returns : goal.returns
unfolding written_behind
returns g c =
    ap (λ all. and_then all (λ (w : Written). let text : Result _ Refusal = Ok w.text in text))
    (lines-end with_line c.args.lines.now (writer_view c.loop-position.writer)
    c.loop-position.position _ c.loop-position-test.false c.loop-position.invariant)

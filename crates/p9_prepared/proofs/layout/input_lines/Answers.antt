use Rattle.std.proofs.Common.{◌∙◌, ap, arith, map}
use Rattle.p9_base.specs.Line.{lines_of}
use Rattle.p9_prepared.proofs.Layouts.{holds-end, holds-more}
use Rattle.p9_prepared.proofs.layout.input_lines.Goals as goal

pub loop-position-preserved : goal.loop-position-preserved
loop-position-preserved g c =
    let same =
    ap (map (λ line. line.now)) c.deref-text-items.ensures.value ∙ c.in_ok-lines.ensures in
    rw c.in_ok-push.ensures.items
    (holds-more c.deref-text-items.result.now (lines_of c.args.input.now) same
    c.loop-position.position _ c.loop-position-test.true _ c.in_ok-line.line c.read.new.self.progress
    c.in_ok-line.ensures.number c.loop-position.found.items c.loop-position.layout.progress
    c.in_ok-line.ensures.read c.loop-position.invariant)

pub returns : goal.returns
returns g c =
    let same =
    ap (map (λ line. line.now)) c.deref-text-items.ensures.value ∙ c.in_ok-lines.ensures in
    holds-end c.deref-text-items.result.now c.args.input.now same c.loop-position.position
    (omega arith) c.loop-position.found.items c.loop-position.layout.progress
    c.loop-position.invariant

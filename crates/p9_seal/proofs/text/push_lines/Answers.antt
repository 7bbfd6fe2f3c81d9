use Rattle.std.specs.String.{string_bytes}
use Rattle.p9_seal.proofs.Copies.{copied-more, copied-all}
use Rattle.p9_seal.proofs.text.push_lines.Goals as goal

pub loop-line-preserved : goal.loop-line-preserved
loop-line-preserved g c =
    copied-more c.args.lines.now c.loop-line.line-index (string_bytes c.loop-line.text) _ _ _
    c.loop-line-test.true c.in_ok-push_line.ensures c.loop-line.invariant

pub returns : goal.returns
returns g c =
    copied-all c.args.lines.now c.loop-line.line-index (string_bytes c.loop-line.text) _
    c.loop-line-test.false c.loop-line.invariant

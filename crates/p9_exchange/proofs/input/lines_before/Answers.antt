use Rattle.std.proofs.Common.{sym, ◌∙◌}
use Rattle.p9_exchange.proofs.Inputs.{head-found, other-passed, no-head}
use Rattle.p9_exchange.proofs.input.lines_before.Goals as goal

pub returns-then-eq-clause-before : goal.returns-then-eq-clause-before
returns-then-eq-clause-before c =
    head-found c.args.head.now c.args.lines.now c.loop-i.i _ c.loop-i-test.true
    (sym c.eq.ensures ∙ c.if-eq.true) c.loop-i.invariant

pub loop-i-preserved : goal.loop-i-preserved
loop-i-preserved c =
    other-passed c.args.head.now c.args.lines.now c.loop-i.i _ c.loop-i-test.true
    (sym c.eq.ensures ∙ c.if-eq.false) c.loop-i.invariant

pub returns-clause-before : goal.returns-clause-before
returns-clause-before c =
    no-head c.args.head.now c.args.lines.now c.loop-i.i c.loop-i-test.false c.loop-i.invariant

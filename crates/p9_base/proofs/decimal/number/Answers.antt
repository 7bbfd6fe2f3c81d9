use Rattle.std.proofs.Common.{arith, sym, ◌∙◌}
use Rattle.p9_base.proofs.Decimals.{number_of_none, number_of-parse}
use Rattle.p9_base.proofs.decimal.number.Goals as goal

pub returns-then-not-is_decimal-clause-value : goal.returns-then-not-is_decimal-clause-value
returns-then-not-is_decimal-clause-value c =
    number_of_none c.args.limit c.args.word.now
    (sym c.is_decimal.ensures ∙ c.if-not-is_decimal.true)

pub returns-in_err-number-clause-value : goal.returns-in_err-number-clause-value
returns-in_err-number-clause-value c =
    let value =
    number_of-parse c.args.limit c.args.word.now c.parse.result c.ok.result
    (omega (arith, c.ranges.limit)) (sym c.is_decimal.ensures ∙ c.if-not-is_decimal.false)
    c.parse.ensures.value.0 c.ok.ensures.value in
    c.from_residual.ensures ∙ sym (rw c.in_err-number.was at value)

pub returns-clause-value : goal.returns-clause-value
returns-clause-value c =
    let value =
    number_of-parse c.args.limit c.args.word.now c.parse.result c.ok.result
    (omega (arith, c.ranges.limit)) (sym c.is_decimal.ensures ∙ c.if-not-is_decimal.false)
    c.parse.ensures.value.0 c.ok.ensures.value in
    c.then_some.ensures ∙ sym (rw c.in_ok-number.was at value)

use Rattle.std.proofs.Common.{◌≡◌, refl, sym, ◌∙◌, arith}
use Rattle.std.specs.Str.Parse.{digits_value}
use Rattle.std.proofs.lemmas.List.{take_all}
use Rattle.std.proofs.lemmas.Int.Digits.{digits_value_more}
use Rattle.p9_words.specs.Form.{radix_of}
use Rattle.p9_words.proofs.Digits.{AllDigits-at, too_great, radix-some}
use Rattle.p9_words.proofs.word.value_of.Goals as goal

pub with_digit-requires-clause-digit : goal.with_digit-requires-clause-digit
with_digit-requires-clause-digit c =
    rw c.radix-radix.ensures
    (AllDigits-at (radix_of c.args.base) c.args.digits.now c.loop-digit.digit-index c.requires
    c.loop-digit-test.true)

pub returns-in_err-value : goal.returns-in_err-value
returns-in_err-value c =
    rw c.from_residual.ensures
    (λ small. c.in_err-value.ensures
    (too_great (radix_of c.args.base) c.radix-radix.result c.args.digits.now
    c.loop-digit.digit-index c.loop-digit.value c.radix-radix.ensures (radix-some c.args.base)
    c.loop-digit-test.true c.loop-digit.invariant.value small))

pub loop-digit-preserved : goal.loop-digit-preserved
loop-digit-preserved c =
    let more =
    digits_value_more c.radix-radix.result c.args.digits.now c.loop-digit.digit-index
    c.loop-digit-test.true in
    record {
      value = c.in_ok-value.ensures.1 ∙ rw c.loop-digit.invariant.value (sym more);
      small = omega (arith, c.in_ok-value.ensures.0, c.in_ok-value.ensures.1);
    }

pub returns : goal.returns
returns c =
    let all : c.loop-digit.value ≡ digits_value (radix_of c.args.base) c.args.digits.now =
    c.loop-digit.invariant.value
    ∙ rw (
      c.radix-radix.ensures,
      take_all c.loop-digit.digit-index c.args.digits.now c.loop-digit-test.false,
    ) refl in
    (omega (arith, all, c.loop-digit.invariant.small), all)

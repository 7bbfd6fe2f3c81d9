use Rattle.p9_words.specs.Form.{radix_of}
use Rattle.p9_words.proofs.Digits.{AllDigits-front}
use Rattle.p9_words.proofs.word.take_number.Goals as goal

pub take_digits-requires-clause-digits : goal.take_digits-requires-clause-digits
take_digits-requires-clause-digits c =
    rw c.prefix_len.ensures.front (AllDigits-front (radix_of c.args.base) c.skip_blanks-here.result.now)

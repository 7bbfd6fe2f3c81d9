-- What `parse` gives at the digits of a word.
use Rattle.std.proofs.Common.{◌≡◌, ℕ, ◌<◌, ◌≤◌, ◌^◌, cond, ⊎_elim, List, length, Option, Some, None}
use Rattle.std.proofs.Common.{Result, Ok, Err, true, false, refl, sym, arith, rules}
use Rattle.std.specs.Prelude.{nat_lt}
use Rattle.std.specs.Bool.{then_some}
use Rattle.std.specs.Char.{is_ascii_digit}
use Rattle.std.specs.List.{list_all}
use Rattle.std.specs.Option.{option_and_then}
use Rattle.std.specs.Result.{OkIff, result_ok}
use Rattle.std.specs.Str.Parse.{ParsesUnsigned, digits_value}
use Rattle.std.proofs.lemmas.Bool.{and_parts, not-true, eqb-false, le-ltb, cases_lt}
use Rattle.std.proofs.lemmas.Str.Parse.{IsNumeralModel, numerals_by_value, parse_digits}
use Rattle.p9_base.specs.Decimal.{is_decimal, number_of}

-- a word of digits is what `parse` reads
decimal_digits : IsNumeralModel (λ ds. list_all is_ascii_digit ds ≡ true) (digits_value 10)
decimal_digits = numerals_by_value _ (search rules)

-- a word that is no decimal number writes none
pub number_of_none : (limit : ℕ) (word : List ℕ) → is_decimal word ≡ false
    → None ≡ number_of limit word
unfolding number_of
number_of_none limit word other = rw other refl

-- the number below the limit, from what `parse` says of the digits
number_of-digits : {E : Type 0} (limit : ℕ) (word : List ℕ) (r : Result ℕ E) → limit < 2 ^ 64
    → is_decimal word ≡ true →
    OkIff r ((0 < length word) × (digits_value 10 word < 2 ^ 64)) (digits_value 10 word) →
    number_of limit word ≡ option_and_then (λ n. then_some (nat_lt n limit) n) (result_ok r)
unfolding number_of
number_of-digits limit word (Ok n) small decimal h =
    let value : digits_value 10 word ≡ n = sym h.1 in
    rw (decimal, value)
    (elim (nat_lt n limit) as
    (λ b. cond b (Some n) None ≡ then_some b n) [ true ↦ refl | false ↦ refl ])
number_of-digits limit word (Err e) small decimal h =
    let some : 0 < length word =
    let empty = eqb-false (length word) 0 (not-true _ (and_parts _ _ decimal).0) in
    omega arith in
    let large : limit ≤ digits_value 10 word =
    ⊎_elim (λ l. absurd (h (some, omega arith))) (λ l. l)
    (cases_lt (digits_value 10 word) limit) in
    rw (decimal, le-ltb (digits_value 10 word) limit large) refl

-- a decimal number is what `parse` gives, where that is below the limit
pub number_of-parse : {E : Type 0} (limit : ℕ) (word : List ℕ) (r : Result ℕ E) (o : Option ℕ)
    → limit < 2 ^ 64 → is_decimal word ≡ true → ParsesUnsigned 64 10 word r → o ≡ result_ok r →
    number_of limit word ≡ option_and_then (λ n. then_some (nat_lt n limit) n) o
number_of-parse limit word r o small decimal parsed same =
    rw same
    (number_of-digits limit word r small decimal
    (parse_digits decimal_digits 64 word r parsed (and_parts _ _ decimal).1))

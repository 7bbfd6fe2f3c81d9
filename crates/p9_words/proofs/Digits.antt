-- Digits at the front of a text, and the number that they write.
use Rattle.std.proofs.Common.{◌≡◌, ℕ, zero, suc, ◌+◌, ◌*◌, ◌<◌, ◌≤◌, ◌^◌, Bool, true, false, cond}
use Rattle.std.proofs.Common.{List, [], ◌∷◌, length, take, get_or, refl, sym, subst, arith}
use Rattle.std.specs.Char.{digit_value, is_digit}
use Rattle.std.specs.List.{take_while}
use Rattle.std.specs.Str.Parse.{AllDigits, digits_value}
use Rattle.p9_words.specs.Form.{radix_of}
use Rattle.p9_words.specs.declared.form.Base.{Base}
use Rattle.p9_words.specs.declared.form.Base.TheVariants.{Octal, Decimal, Hexadecimal}
use Rattle.std.proofs.lemmas.Bool.{ltb-true}
use Rattle.std.proofs.lemmas.List.Sums.{take_while-cons}
use Rattle.std.proofs.lemmas.Int.Digits.{digits_value_more}
use Rattle.std.proofs.lemmas.Str.Parse.{digits_value-take-le}

-- each byte of the digits at the front is one
pub AllDigits-front : (radix : ℕ) (text : List ℕ)
    → AllDigits radix (take_while (λ c. is_digit c radix) text)
AllDigits-front radix [] = tt
AllDigits-front radix (c ∷ text) =
    subst (AllDigits radix) (sym (take_while-cons (λ c. is_digit c radix) c text))
    (cases (is_digit c radix) refl (AllDigits-front radix text))
  where
    cases : (b : Bool) → is_digit c radix ≡ b
        → AllDigits radix (take_while (λ c. is_digit c radix) text)
        → AllDigits radix (cond b (c ∷ take_while (λ c. is_digit c radix) text) [])
    cases true is others = (ltb-true _ _ is, others)
    cases false is others = tt

-- the digit at an index
pub AllDigits-at : (radix : ℕ) (ds : List ℕ) (i : ℕ) → AllDigits radix ds → i < length ds
    → digit_value (get_or ds i 0) < radix
AllDigits-at radix [] i all lt = absurd (omega arith)
AllDigits-at radix (c ∷ ds) zero all lt = all.0
AllDigits-at radix (c ∷ ds) (suc i) all lt = AllDigits-at radix ds i all.1 (omega arith)

-- the number of the digits up to the next is no greater than that of all
pub digits_value-more-le : (radix : ℕ) (ds : List ℕ) (i : ℕ) → 1 ≤ radix → i < length ds →
    digits_value radix (take i ds) * radix + digit_value (get_or ds i 0) ≤ digits_value radix ds
digits_value-more-le radix ds i some lt =
    omega (arith, digits_value_more radix ds i lt, digits_value-take-le radix ds (i + 1) some)

-- the number so far with one digit more is less than 2^64, where the number of all digits is
pub too_great : (radix n : ℕ) (ds : List ℕ) (i value : ℕ) → n ≡ radix → 1 ≤ radix → i < length ds
    → value ≡ digits_value n (take i ds)
    → digits_value radix ds < 2 ^ 64 → value * n + digit_value (get_or ds i 0) < 2 ^ 64
too_great radix n ds i value same some lt is small =
    let s : digits_value n ds < 2 ^ 64 = rw same small in
    let le : value * n + digit_value (get_or ds i 0) ≤ digits_value n ds =
    rw is (digits_value-more-le n ds i (omega arith) lt) in
    omega (arith, s, le)

-- a base has some digits
pub radix-some : (base : Base) → 1 ≤ radix_of base
radix-some Octal = omega arith
radix-some Decimal = omega arith
radix-some Hexadecimal = omega arith

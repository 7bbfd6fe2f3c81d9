-- A number that is printed is read back.
use Rattle.std.proofs.Common.{◌≡◌, ℕ, ◌<◌, ◌≤◌, ◌^◌, true, false, eqb, List, [], ◌∷◌}
use Rattle.std.proofs.Common.{◌++◌, length, Ok, refl, arith}
use Rattle.std.specs.Char.{is_digit}
use Rattle.std.specs.List.{prefix_len, list_all}
use Rattle.std.specs.Str.Parse.{AllDigits, IsNumeral, digits_value}
use Rattle.std.proofs.lemmas.Bool.{and_from, lt-ltb, le-ltb, ne_eqb}
use Rattle.std.proofs.lemmas.List.{take_at, drop_at}
use Rattle.std.proofs.lemmas.Fmt.{digits_is_IsNumeral}
use Rattle.p9_words.specs.Class.{is_in, skip_blanks}
use Rattle.p9_words.specs.Form.{radix_of}
use Rattle.p9_words.specs.Reading.{digits_at, number_at}
use Rattle.p9_words.specs.Words.{number_words, octal_words}
use Rattle.p9_words.specs.declared.class.Class.TheVariants.{Digit}
use Rattle.p9_words.specs.declared.form.Base.{Base}
use Rattle.p9_words.specs.declared.form.Base.TheVariants.{Octal, Decimal, Hexadecimal}
use Rattle.p9_words.proofs.Fronts.{starts, prefix_len-front, starts-front}

-- each is a digit
list_all-digits : (radix : ℕ) (ds : List ℕ) → AllDigits radix ds
    → list_all (λ c. is_digit c radix) ds ≡ true
list_all-digits radix [] all = refl
list_all-digits radix (c ∷ ds) all =
    and_from _ _ (lt-ltb _ _ all.0) (list_all-digits radix ds all.1)

-- what is printed of a number is digits that write it
numeral : (base : Base) (n : ℕ) → n < 2 ^ 64 → IsNumeral (radix_of base) (number_words base n)
    × (digits_value (radix_of base) (number_words base n) ≡ n)
numeral Octal n small = digits_is_IsNumeral 8 false (omega arith) (omega arith) n (omega arith)
numeral Decimal n small = digits_is_IsNumeral 10 false (omega arith) (omega arith) n (omega arith)
numeral Hexadecimal n small =
    digits_is_IsNumeral 16 false (omega arith) (omega arith) n (omega arith)

-- a blank is no digit
pub blank-digit : (base : Base) → is_in (Digit base) 32 ≡ false
blank-digit Octal = refl
blank-digit Decimal = refl
blank-digit Hexadecimal = refl

-- nor is a tab
tab-digit : (base : Base) → is_in (Digit base) 9 ≡ false
tab-digit Octal = refl
tab-digit Decimal = refl
tab-digit Hexadecimal = refl

-- nor a parenthesis
pub closing-digit : (base : Base) → is_in (Digit base) 41 ≡ false
closing-digit Octal = refl
closing-digit Decimal = refl
closing-digit Hexadecimal = refl

-- each byte of a number is a digit
number-digits : (base : Base) (n : ℕ) → n < 2 ^ 64
    → list_all (is_in (Digit base)) (number_words base n) ≡ true
number-digits base n small = list_all-digits (radix_of base) _ (numeral base n small).0.1

-- a number begins with no blank
pub number-starts : (base : Base) (n : ℕ) (rest : List ℕ) → n < 2 ^ 64
    → starts (number_words base n ++ rest) ≡ true
number-starts base n rest small =
    starts-front (is_in (Digit base)) (number_words base n) rest (blank-digit base)
    (tab-digit base) (number-digits base n small) (numeral base n small).0.0

-- digits that write a number are read as it
digits-law : (base : Base) (n most : ℕ) (ds rest : List ℕ) → digits_value (radix_of base) ds ≡ n
    → 0 < length ds → n ≤ most → digits_at base most (length ds) (ds ++ rest) ≡ Ok (n, rest)
unfolding digits_at
digits-law base n most ds rest value some fits =
    let no : eqb (length ds) 0 ≡ false = ne_eqb _ _ (λ e. omega arith) in
    rw (
      take_at ds rest (length ds) refl,
      drop_at ds rest (length ds) refl,
      value,
      no,
      le-ltb most n fits,
    ) refl

-- digits at the front that write a number are read as it
numeral-law : (base : Base) (ds : List ℕ) (n most : ℕ) (text rest : List ℕ)
    → IsNumeral (radix_of base) ds → digits_value (radix_of base) ds ≡ n
    → skip_blanks text ≡ ds ++ rest → prefix_len (is_in (Digit base)) rest ≡ 0 → n ≤ most
    → number_at base most text ≡ Ok (n, rest)
unfolding number_at
numeral-law base ds n most text rest is value here behind fits =
    let len =
    prefix_len-front (is_in (Digit base)) ds rest (list_all-digits (radix_of base) ds is.1)
    behind in
    rw (here, len) (digits-law base n most ds rest value is.0 fits)

-- a number that is printed is read back
pub number-law : (base : Base) (n most : ℕ) (text rest : List ℕ)
    → skip_blanks text ≡ number_words base n ++ rest → n < 2 ^ 64
    → prefix_len (is_in (Digit base)) rest ≡ 0 → n ≤ most → number_at base most text ≡ Ok (n, rest)
number-law base n most text rest here small behind fits =
    let is = numeral base n small in
    numeral-law base (number_words base n) n most text rest is.0 is.1 here behind fits

-- and so are permissions and flags
pub octal-law : (n most : ℕ) (text rest : List ℕ) → skip_blanks text ≡ octal_words n ++ rest
    → n < 2 ^ 64 → prefix_len (is_in (Digit Octal)) rest ≡ 0 → n ≤ most
    → number_at Octal most text ≡ Ok (n, rest)
octal-law n most text rest here small behind fits =
    let is = numeral Octal n small in
    let all : AllDigits 8 (48 ∷ number_words Octal n) = (omega arith, is.0.1) in
    numeral-law Octal (48 ∷ number_words Octal n) n most text rest (omega arith, all) is.1 here
    behind fits

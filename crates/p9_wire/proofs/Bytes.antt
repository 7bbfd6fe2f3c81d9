-- The bytes of a number that was read are those it was read from.
use Rattle.std.proofs.Common.{◌≡◌, ℕ, zero, suc, ◌+◌, ◌*◌, ◌/◌, ◌%◌, ◌^◌, ◌<◌, ◌≤◌, List, [], ◌∷◌}
use Rattle.std.proofs.Common.{◌++◌, length, take, get_or, refl, sym, ap, ◌∙◌, inl, inr, arith}
use Rattle.std.proofs.Math.Nat.{div-div-eq-div-mul, div-one, pow-succ'}
use Rattle.std.proofs.lemmas.List.{get_or-append-add, get_or_append_left, get_or_past}
use Rattle.std.proofs.lemmas.List.{length-append}
use Rattle.std.proofs.lemmas.Bool.{cases_lt}
use Rattle.std.specs.Int.{byte_at, bytes_low_first}
use Rattle.byteorder.specs.Endian.{little_from, little_number, little_bytes}
use Rattle.byteorder.specs.Numbers.{little_from-cons, length-bytes_low_first}
use Rattle.p9_wire.specs.Fields.{number}
use Rattle.p9_wire.specs.Frame.{IsBytes}

-- each place of bytes is below 256, where those behind the last are 0
pub each_below : (bytes : List ℕ) → IsBytes bytes → (i : ℕ) → get_or bytes i 0 < 256
each_below bytes fits i = elim (cases_lt i (length bytes)) [
  | inl lt ↦ fits i 0 lt
  | inr le ↦ rw (get_or_past bytes i 0 le) (omega arith)
]

-- what follows bytes is bytes
pub IsBytes-back : (front back : List ℕ) → IsBytes (front ++ back) → IsBytes back
IsBytes-back front back h i d lt =
    rw (← get_or-append-add front back i d)
    (h (length front + i) d (omega (arith, lt, length-append front back)))

-- and what is in front
pub IsBytes-front : (front back : List ℕ) → IsBytes (front ++ back) → IsBytes front
IsBytes-front front back h i d lt =
    rw (← get_or_append_left front back d i lt)
    (h i d (omega (arith, lt, length-append front back)))

-- all but the first of bytes are bytes
IsBytes-rest : (b : ℕ) (bytes : List ℕ) → IsBytes (b ∷ bytes) → IsBytes bytes
IsBytes-rest b bytes h i d lt = h (suc i) d (omega (arith, lt))

-- a byte of a number, by its place
byte_at-pow : (k x : ℕ) → byte_at k x ≡ x / 256 ^ k % 256
byte_at-pow zero x = ap (λ (y : ℕ). y % 256) (sym (div-one x))
byte_at-pow (suc k) x = refl

-- a byte of a number is one of its upper part
byte_at-suc : (i x : ℕ) → byte_at (suc i) x ≡ byte_at i (x / 256)
byte_at-suc i x =
    ap (λ (p : ℕ). x / p % 256) (pow-succ' 256 i)
    ∙ ap (λ (q : ℕ). q % 256) (sym (div-div-eq-div-mul x 256 (256 ^ i)))
    ∙ sym (byte_at-pow i (x / 256))

-- the upper bytes of a number are those of its upper part
low_first-suc : (i n x : ℕ) → bytes_low_first (suc i) n x ≡ bytes_low_first i n (x / 256)
low_first-suc i zero x = refl
low_first-suc i (suc n) x = rw (byte_at-suc i x, low_first-suc (suc i) n x) refl

-- the bytes of the number that was read are those it was read from
pub number-back : (n : ℕ) (bytes : List ℕ) → IsBytes bytes → n ≤ length bytes
    → little_bytes n (little_number n bytes) ≡ take n bytes
number-back zero bytes fits long = refl
number-back (suc n) [] fits long = absurd (omega arith)
number-back (suc n) (a ∷ bytes) fits long =
    let rest = little_from 0 n bytes in
    let low : a < 256 = fits 0 0 (omega arith) in
    let value : little_from 0 (suc n) (a ∷ bytes) ≡ a + 256 * rest =
    ap (λ (r : ℕ). a + 256 * r) (little_from-cons 0 n a bytes) in
    let first : (a + 256 * rest) % 256 ≡ a = omega arith in
    let others : (a + 256 * rest) / 256 ≡ rest = omega arith in
    let ih = number-back n bytes (IsBytes-rest a bytes fits) (omega arith) in
    rw (value, first, low_first-suc 0 n (a + 256 * rest), others, ih) refl

-- a number takes as many bytes as it is said to
pub length-number : (n x : ℕ) → length (number n x) ≡ n
unfolding number
length-number n x = length-bytes_low_first 0 n x

-- The size of a frame is in its first four bytes.
use Rattle.std.proofs.Common.{◌≡◌, ◌∙◌, ℕ, ◌≤◌, List, ap, arith, drop, length, length-take-le, sym}
use Rattle.std.proofs.Common.{take, take-append-drop}
use Rattle.byteorder.specs.Endian.{little_number}
use Rattle.byteorder.specs.Numbers.{little_from-append}

-- a front of the bytes says the same
pub size-front : (n : ℕ) (bytes : List ℕ) → 4 ≤ n → n ≤ length bytes
    → little_number 4 (take n bytes) ≡ little_number 4 bytes
size-front n bytes enough within =
    sym (little_from-append 4 (take n bytes) (drop n bytes) (omega (arith, length-take-le n bytes within)))
    ∙ ap (little_number 4) (take-append-drop n bytes)

-- and so does a longer front of bytes that agree in the first seven
pub size-kept : (n : ℕ) (old new : List ℕ) → 7 ≤ n → n ≤ length new → 7 ≤ length old
    → take 7 new ≡ take 7 old → little_number 4 (take n new) ≡ little_number 4 old
size-kept n old new enough within long kept =
    size-front n new (omega arith) within
    ∙ sym (size-front 7 new (omega arith) (omega arith))
    ∙ ap (little_number 4) kept
    ∙ size-front 7 old (omega arith) long

-- The word of a file's bytes is read back as the bytes.
use Rattle.std.proofs.Common.{◌≡◌, ℕ, suc, zero, ◌/◌, ◌%◌, false, List, [], ◌∷◌}
use Rattle.std.proofs.Common.{length, refl, ap, arith, Some}
use Rattle.std.specs.Prelude.{codes, slice_index}
use Rattle.std.specs.List.{AllByRecursion, list_any}
use Rattle.std.specs.Result.{result_ok}
use Rattle.std.specs.Str.{bytes_eq}
use Rattle.std.proofs.lemmas.Bool.{false_from_ne_true, lt-ltb, or_parts}
use Rattle.std.proofs.lemmas.List.Elements.{All-from_recursion}
use Rattle.std.proofs.lemmas.Slice.Eq.{bytes_eq-Decides}
use Rattle.hex.specs.Hex.{IsBytes, encode_lower, encode_with, lower_digits}
use Rattle.hex.proofs.HexLemmas.{decode_of-encode_lower, length-encode_with}
use Rattle.p9_world.specs.Entry.{bytes_in}
use Rattle.p9_world.specs.Text.{bytes_word}
use Rattle.p9_world.specs.Word.{ends_word}
use Rattle.p9_world.proofs.Words.{IsWord}

-- digits are not the word of no bytes
digits-differ : (b : ℕ) (bs : List ℕ) → bytes_eq (encode_lower (b ∷ bs)) (codes "-") ≡ false
digits-differ b bs =
    false_from_ne_true _ (λ same.
    let e : encode_lower (b ∷ bs) ≡ codes "-" = (bytes_eq-Decides _ _).0 same in
    let twice = length-encode_with lower_digits (b ∷ bs) in
    let one : length (encode_lower (b ∷ bs)) ≡ 1 = ap length e in
    omega arith)

pub bytes_in-bytes_word : (bytes : List ℕ) → IsBytes bytes → bytes_in (bytes_word bytes) ≡ Some bytes
bytes_in-bytes_word [] sound = refl
bytes_in-bytes_word (b ∷ bs) sound =
    rw (digits-differ b bs) (ap result_ok (decode_of-encode_lower (b ∷ bs) sound))

-- a place of a table without what ends a word
plain-at : (table : List ℕ) (k : ℕ) → list_any ends_word table ≡ false
    → ends_word (slice_index table k) ≡ false
plain-at [] k none = refl
plain-at (d ∷ ds) zero none = (or_parts (ends_word d) (list_any ends_word ds) none).0
plain-at (d ∷ ds) (suc k) none =
    plain-at ds k (or_parts (ends_word d) (list_any ends_word ds) none).1

plain-digits : (bytes : List ℕ)
    → AllByRecursion (λ b. ends_word b ≡ false) (encode_with lower_digits bytes)
unfolding encode_with
plain-digits [] = tt
plain-digits (b ∷ bs) = (
  plain-at lower_digits (b / 16) refl,
  (plain-at lower_digits (b % 16) refl, plain-digits bs),
)

pub IsWord-bytes : (bytes : List ℕ) → IsWord (bytes_word bytes)
IsWord-bytes [] = record {
  some = refl;
  plain = All-from_recursion (λ b. ends_word b ≡ false) (codes "-") (refl, tt);
}
IsWord-bytes (b ∷ bs) = record {
  some =
      let twice = length-encode_with lower_digits (b ∷ bs) in
      lt-ltb 0 (length (encode_lower (b ∷ bs))) (omega arith);
  plain =
      All-from_recursion (λ b. ends_word b ≡ false) (encode_lower (b ∷ bs))
      (plain-digits (b ∷ bs));
}

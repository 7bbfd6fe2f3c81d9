-- Texts, kept in place and tested.
use Rattle.std.proofs.Common.{◌≡◌, ℕ, ◌≤◌, List, [], ◌∷◌, ◌++◌, zero, suc, true, IsTrue, length}
use Rattle.std.proofs.Common.{take, drop, replicate, refl, lit<}
use Rattle.std.specs.Prelude.{IsUtf8, ◌==◌, not, nat_lt}
use Rattle.std.specs.List.{list_any, list_all}
use Rattle.std.specs.Str.{IsAscii}
use Rattle.std.proofs.Math.Seq.{take-append_seam}
use Rattle.std.proofs.lemmas.Bool.{and_parts, and_from, ltb-true}
use Rattle.std.proofs.lemmas.Str.{IsUtf8-from_is_utf8, is_utf8-from_IsUtf8, IsUtf8-from_ascii}
use Rattle.p9_base.specs.Text.{is_text, padded}
use Rattle.p9_base.specs.Padding.{padded-take}

-- a text is UTF-8
pub IsUtf8-from_is_text : (s : List ℕ) → IsTrue (is_text s) → IsUtf8 s
IsUtf8-from_is_text s h = IsUtf8-from_is_utf8 s (and_parts _ _ h).0

-- bytes below 128 are ASCII
IsAscii-from_test : (s : List ℕ) → list_all (λ (b : ℕ). nat_lt b 128) s ≡ true → IsAscii s
IsAscii-from_test [] below i = lit< tt
IsAscii-from_test (b ∷ bs) below zero = ltb-true b 128 (and_parts _ _ below).0
IsAscii-from_test (b ∷ bs) below (suc i) = IsAscii-from_test bs (and_parts _ _ below).1 i

-- bytes below 128 without NUL are a text
pub is_text-ascii : (s : List ℕ) → list_all (λ (b : ℕ). nat_lt b 128) s ≡ true
    → not (list_any (λ (b : ℕ). b == 0) s) ≡ true → is_text s ≡ true
is_text-ascii s below no_nul =
    and_from _ _ (is_utf8-from_IsUtf8 s (IsUtf8-from_ascii s (IsAscii-from_test s below))) no_nul

-- characters are a text where none is NUL
pub is_text-IsUtf8 : (s : List ℕ) → IsUtf8 s → not (list_any (λ (b : ℕ). b == 0) s) ≡ is_text s
is_text-IsUtf8 s utf8 = rw (is_utf8-from_IsUtf8 s utf8) refl

-- what is kept of a text that was copied over the front of zeros
pub kept_text : (n : ℕ) (text front : List ℕ) → length text ≤ n → IsTrue (is_text text)
    → front ≡ text →
    (length text ≤ n)
    × (front ++ drop (length text) (replicate n 0)
    ≡ padded n (take (length text) (front ++ drop (length text) (replicate n 0))))
    × IsTrue (is_text (take (length text) (front ++ drop (length text) (replicate n 0))))
kept_text n text front fits sound same =
    rw same (fits, padded-take n text fits, rw take-append_seam sound)

-- The front of a text, character by character.
use Rattle.std.proofs.Common.{◌≡◌, ℕ, zero, suc, ◌-◌, ◌<◌, List, [], ◌∷◌, ◌++◌, length, take, sym, ap, ◌∙◌, arith}
use Rattle.std.proofs.Common.{append_assoc, append-nil, encode_utf8, encode_utf8_all, refl}
use Rattle.std.specs.Str.{IsUtf8, chars}
use Rattle.std.proofs.lemmas.Str.{chars-nil, chars_past_char}

take-left : (left c : ℕ) (cs : List ℕ) → 0 < left → take left (c ∷ cs) ≡ c ∷ take (left - 1) cs
take-left zero c cs some = absurd (omega arith)
take-left (suc n) c cs some =
    let same : suc n - 1 ≡ n = omega arith in
    ap (λ k. c ∷ take k cs) (sym same)

-- one character more
pub front-more : (rest next out after whole : List ℕ) (left c : ℕ) → IsUtf8 rest
    → rest ≡ encode_utf8 c ++ next → after ≡ out ++ encode_utf8 c → 0 < left
    → out ++ encode_utf8_all (take left (chars rest)) ≡ whole
    → after ++ encode_utf8_all (take (left - 1) (chars next)) ≡ whole
front-more rest next out after whole left c utf8 is grown some so_far =
    let tail = encode_utf8_all (take (left - 1) (chars next)) in
    ap (λ a. a ++ tail) grown ∙ append_assoc out (encode_utf8 c) tail
    ∙ ap (λ cs. out ++ encode_utf8_all cs) (sym (take-left left c (chars next) some))
    ∙ ap (λ cs. out ++ encode_utf8_all (take left cs)) (sym (chars_past_char rest next c utf8 is))
    ∙ so_far

take-none : (n : ℕ) → take {A = ℕ} n [] ≡ []
take-none zero = refl
take-none (suc n) = refl

-- none is left
pub front-end : (rest out whole : List ℕ) (left : ℕ) → length rest ≡ 0
    → out ++ encode_utf8_all (take left (chars rest)) ≡ whole → out ≡ whole
front-end [] out whole left none so_far =
    let all : out ++ encode_utf8_all (take left (chars [])) ≡ out =
    ap (λ cs. out ++ encode_utf8_all (take left cs)) chars-nil
    ∙ ap (λ cs. out ++ encode_utf8_all cs) (take-none left) ∙ append-nil out in
    sym all ∙ so_far
front-end (b ∷ bs) out whole left none so_far = absurd (omega arith)

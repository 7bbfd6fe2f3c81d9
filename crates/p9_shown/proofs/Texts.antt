-- Texts as they are shown, character by character.
use Rattle.std.proofs.Common.{◌≡◌, ℕ, List, [], ◌∷◌, ◌++◌, length, sym, ap, ◌∙◌, arith}
use Rattle.std.proofs.Common.{append_assoc, append-nil, encode_utf8, encode_utf8_all}
use Rattle.std.specs.List.{flat_map}
use Rattle.std.specs.Str.{IsUtf8, chars}
use Rattle.std.proofs.lemmas.Str.{chars-nil, chars_past_char, encodes-append}
use Rattle.p9_shown.specs.Text.{shown_char}

-- the bytes that characters are shown by
abbrev pub shown_chars : List ℕ → List ℕ
shown_chars cs = encode_utf8_all (flat_map shown_char cs)

-- one character more
pub shown-more : (rest next out after whole : List ℕ) (c : ℕ) → IsUtf8 rest
    → rest ≡ encode_utf8 c ++ next → after ≡ out ++ encode_utf8_all (shown_char c)
    → out ++ shown_chars (chars rest) ≡ whole → after ++ shown_chars (chars next) ≡ whole
shown-more rest next out after whole c utf8 is grown kept =
    ap (λ a. a ++ shown_chars (chars next)) grown
    ∙ append_assoc out (encode_utf8_all (shown_char c)) (shown_chars (chars next))
    ∙ ap (λ x. out ++ x) (sym (encodes-append (shown_char c) (flat_map shown_char (chars next))))
    ∙ ap (λ cs. out ++ shown_chars cs) (sym (chars_past_char rest next c utf8 is))
    ∙ kept

-- none is left
pub shown-end : (rest out whole : List ℕ) → length rest ≡ 0 → out ++ shown_chars (chars rest) ≡ whole
    → out ≡ whole
shown-end [] out whole none kept =
    sym (ap (λ cs. out ++ shown_chars cs) chars-nil ∙ append-nil out) ∙ kept
shown-end (b ∷ bs) out whole none kept = absurd (omega arith)

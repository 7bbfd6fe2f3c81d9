-- Texts that are joined from the right are joined from the left, and texts that grow.
use Rattle.std.proofs.Common.{◌≡◌, ℕ, List, ◌++◌, append_assoc, sym, ap, ◌∙◌}

pub three : (a b c : List ℕ) → a ++ (b ++ c) ≡ a ++ b ++ c
three a b c = sym (append_assoc a b c)

pub four : (a b c d : List ℕ) → a ++ (b ++ (c ++ d)) ≡ a ++ b ++ c ++ d
four a b c d = three a b (c ++ d) ∙ three (a ++ b) c d

pub five : (a b c d e : List ℕ) → a ++ (b ++ (c ++ (d ++ e))) ≡ a ++ b ++ c ++ d ++ e
five a b c d e = three a b (c ++ (d ++ e)) ∙ four (a ++ b) c d e

-- a text that has grown by a line, and then by a piece more
pub more : (old line piece text new : List ℕ) → text ≡ old ++ line → new ≡ text ++ piece
    → new ≡ old ++ (line ++ piece)
more old line piece text new before after =
    after ∙ ap (λ t. t ++ piece) before ∙ append_assoc old line piece

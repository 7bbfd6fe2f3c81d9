-- The bytes of a stat, part by part.
use Rattle.std.proofs.Common.{◌≡◌, ℕ, ◌-◌, List, ◌++◌, length, sym, ap, ◌∙◌, append_assoc}
use Rattle.std.proofs.Common.{arith}
use Rattle.p9_wire.specs.Fields.{number, sized, stat_bytes, stat_fields, stat_len}
use Rattle.p9_wire.specs.Stat.{StatFields}
use Rattle.p9_wire.proofs.Lengths.{length-stat_bytes, length-stat_fields}
use Rattle.p9_words.specs.Stat.{stat_numbers, stat_texts}

-- four parts, one put after the other
pub four : (o p q r s a b c d : List ℕ) → p ≡ o ++ a → q ≡ p ++ b → r ≡ q ++ c → s ≡ r ++ d
    → s ≡ o ++ (a ++ (b ++ (c ++ d)))
four o p q r s a b c d e f g h = h ∙ rw (g, f, e) (simp append_assoc)

-- the numbers and the texts are the fields
fields-parts : (s : StatFields) → stat_fields s ≡ stat_numbers s ++ stat_texts s
fields-parts s = simp append_assoc

-- a stat after its length, part by part
pub sized-parts : (s : StatFields) (size : ℕ) → size ≡ stat_len s
    → sized stat_bytes s ≡ number 2 size ++ (number 2 (size - 2) ++ (stat_numbers s ++
    stat_texts s))
sized-parts s size is =
    let inner : length (stat_fields s) ≡ size - 2 = omega (arith, length-stat_fields s) in
    let outer : length (stat_bytes s) ≡ size = length-stat_bytes s ∙ sym is in
    ap (λ n. number 2 n ++ stat_bytes s) outer
    ∙ ap (λ n. number 2 size ++ (number 2 n ++ stat_fields s)) inner
    ∙ ap (λ f. number 2 size ++ (number 2 (size - 2) ++ f)) (fields-parts s)

-- Elements with a slash between each two.
use Rattle.std.proofs.Common.{◌≡◌, ℕ, List, [], ◌∷◌, ◌++◌, refl, sym, ap, ◌∙◌, append_assoc}
use Rattle.std.specs.List.{join_with_byte}

-- one more piece comes behind one more separator
pub join_with_byte-append : (c : ℕ) (x : List ℕ) (xs : List (List ℕ)) (y : List ℕ)
    → join_with_byte c ((x ∷ xs) ++ y ∷ []) ≡ join_with_byte c (x ∷ xs) ++ c ∷ y
join_with_byte-append c x [] y = refl
join_with_byte-append c x (z ∷ zs) y =
    ap (λ t. x ++ c ∷ t) (join_with_byte-append c z zs y)
    ∙ sym (append_assoc x (c ∷ join_with_byte c (z ∷ zs)) (c ∷ y))

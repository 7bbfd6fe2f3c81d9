-- Texts that are made piece by piece, in the order of a list.
use Rattle.std.proofs.Common.{◌≡◌, ℕ, ◌+◌, ◌<◌, ◌≤◌, List, [], ◌∷◌, ◌++◌, length, get_or, drop}
use Rattle.std.proofs.Common.{sym, ap, ◌∙◌, append_assoc, append-nil, refl}
use Rattle.std.proofs.lemmas.List.{drop_more, drop_all}

-- the text of a list has a piece for each of its elements, which may depend on those behind it
module _ {X : Type 0} (whole : List X → List ℕ) (piece : X → List X → List ℕ)
    (unfolds : (x : X) (xs : List X) → whole (x ∷ xs) ≡ piece x xs ++ whole xs) (xs : List X) (i : ℕ)
    (out all : List ℕ) where
  -- a piece more
  pub piece-more : (d x : X) (after : List ℕ) → i < length xs → x ≡ get_or xs i d
      → after ≡ out ++ piece x (drop (i + 1) xs) → out ++ whole (drop i xs) ≡ all
      → after ++ whole (drop (i + 1) xs) ≡ all
  piece-more d x after l at is kept =
      let rest = drop (i + 1) xs in
      let here : drop i xs ≡ x ∷ rest = drop_more xs i d l ∙ ap (λ y. y ∷ rest) (sym at) in
      ap (λ o. o ++ whole rest) is
      ∙ append_assoc out (piece x rest) (whole rest)
      ∙ ap (λ t. out ++ t) (sym (unfolds x rest))
      ∙ ap (λ ys. out ++ whole ys) (sym here)
      ∙ kept

  -- a piece more, of the element at a position
  pub piece-at : (d : X) (after : List ℕ) → i < length xs
      → after ≡ out ++ piece (get_or xs i d) (drop (i + 1) xs) → out ++ whole (drop i xs) ≡ all
      → after ++ whole (drop (i + 1) xs) ≡ all
  piece-at d after l is kept = piece-more d (get_or xs i d) after l refl is kept

  -- after the last
  pub piece-all : length xs ≤ i → whole [] ≡ [] → out ++ whole (drop i xs) ≡ all → out ≡ all
  piece-all l none kept =
      sym (append-nil out)
      ∙ ap (λ t. out ++ t) (sym none)
      ∙ ap (λ ys. out ++ whole ys) (sym (drop_all i xs l))
      ∙ kept

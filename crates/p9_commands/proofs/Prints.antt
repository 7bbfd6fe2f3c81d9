-- Things that are printed one after another.
use Rattle.std.proofs.Common.{◌≡◌, ℕ, ◌+◌, ◌<◌, List, ◌∷◌, ◌++◌, length, get_or, drop, sym, ap}
use Rattle.std.proofs.Common.{◌∙◌, append_assoc}
use Rattle.std.specs.List.{flat_map}
use Rattle.std.proofs.lemmas.List.{drop_more}

module _ {X : Type 0} (text : X → List ℕ) (items : List X) (before : List ℕ) (i : ℕ)
    (out : List ℕ) where
  -- one thing more
  pub printed-more : (x d : X) (after : List ℕ) → i < length items → x ≡ get_or items i d
      → after ≡ out ++ text x →
      out ++ flat_map text (drop i items) ≡ before ++ flat_map text items
      → after ++ flat_map text (drop (i + 1) items) ≡ before ++ flat_map text items
  printed-more x d after l at is kept =
      ap (λ o. o ++ flat_map text (drop (i + 1) items)) is
      ∙ append_assoc out (text x) (flat_map text (drop (i + 1) items))
      ∙ ap (λ xs. out ++ flat_map text xs)
      (sym (drop_more items i d l ∙ ap (λ y. y ∷ drop (i + 1) items) (sym at)))
      ∙ kept

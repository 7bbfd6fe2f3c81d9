-- Lines that are copied one after another.
use Rattle.std.proofs.Common.{◌≡◌, ℕ, ◌+◌, ◌<◌, ◌≤◌, Bor, List, ◌∷◌, ◌++◌, length, get_or, drop}
use Rattle.std.proofs.Common.{map}
use Rattle.std.proofs.Common.{sym, ap, ◌∙◌, arith, append_assoc, append-nil}
use Rattle.std.specs.List.{flat_map}
use Rattle.std.proofs.lemmas.List.{get_or-map, length-map, drop_more, drop_all}

module _ (text : List ℕ → List ℕ) (items : List (Bor (List ℕ))) (i : ℕ) (out : List ℕ) where
  abbrev lines : List (List ℕ)
  lines = map (λ line. line.now) items

  -- a line more
  pub copied-more : (d : Bor (List ℕ)) (after : List ℕ) → i < length items
      → after ≡ out ++ text (get_or items i d).now
      → out ++ flat_map text (drop i lines) ≡ flat_map text lines
      → after ++ flat_map text (drop (i + 1) lines) ≡ flat_map text lines
  copied-more d after l is kept =
      let line = (get_or items i d).now in
      let here : get_or lines i line ≡ line =
      get_or-map (λ (line : Bor (List ℕ)). line.now) items i d line l in
      let short : i < length lines =
      omega (arith, length-map items (λ (line : Bor (List ℕ)). line.now)) in
      ap (λ o. o ++ flat_map text (drop (i + 1) lines)) is
      ∙ append_assoc out (text line) (flat_map text (drop (i + 1) lines))
      ∙ ap (λ xs. out ++ flat_map text xs)
      (sym (drop_more lines i line short ∙ ap (λ y. y ∷ drop (i + 1) lines) here))
      ∙ kept

  -- after the last
  pub copied-all : length items ≤ i → out ++ flat_map text (drop i lines) ≡ flat_map text lines
      → out ≡ flat_map text lines
  copied-all l kept =
      sym (append-nil out)
      ∙ ap (λ xs. out ++ flat_map text xs)
      (sym (drop_all i lines (omega (arith, length-map items (λ (line : Bor (List ℕ)). line.now)))))
      ∙ kept

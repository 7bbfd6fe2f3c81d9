-- Lines that are added to a text, one after another.
use Rattle.std.proofs.Common.{◌≡◌, ℕ, ◌+◌, ◌<◌, ◌≤◌, Bor, List, [], ◌∷◌, ◌++◌, length, get_or, drop}
use Rattle.std.proofs.Common.{map}
use Rattle.std.proofs.Common.{sym, ap, ◌∙◌, arith, append_assoc, append-nil, refl}
use Rattle.std.specs.List.{flat_map}
use Rattle.std.proofs.lemmas.List.{get_or-map, length-map, drop_more, drop_all}
use Rattle.p9_prepared.specs.Bundle.{ended}
use Rattle.p9_seal.specs.Text.{cert_head, lines_after, lines_before, sealed_text}
use Rattle.p9_base.specs.Line.{whole_lines}

module _ (items : List (Bor (List ℕ))) (i : ℕ) (out whole : List ℕ) where
  abbrev lines : List (List ℕ)
  lines = map (λ line. line.now) items

  -- a line more
  pub copied-more : (d : Bor (List ℕ)) (after : List ℕ) → i < length items
      → after ≡ out ++ ended (get_or items i d).now
      → out ++ flat_map ended (drop i lines) ≡ whole
      → after ++ flat_map ended (drop (i + 1) lines) ≡ whole
  copied-more d after l is kept =
      let line = (get_or items i d).now in
      let here : get_or lines i line ≡ line =
      get_or-map (λ (line : Bor (List ℕ)). line.now) items i d line l in
      let short : i < length lines =
      omega (arith, length-map items (λ (line : Bor (List ℕ)). line.now)) in
      ap (λ o. o ++ flat_map ended (drop (i + 1) lines)) is
      ∙ append_assoc out (ended line) (flat_map ended (drop (i + 1) lines))
      ∙ ap (λ xs. out ++ flat_map ended xs)
      (sym (drop_more lines i line short ∙ ap (λ y. y ∷ drop (i + 1) lines) here))
      ∙ kept

  -- after the last
  pub copied-all : length items ≤ i → out ++ flat_map ended (drop i lines) ≡ whole → out ≡ whole
  copied-all l kept =
      sym (append-nil out)
      ∙ ap (λ xs. out ++ flat_map ended xs)
      (sym (drop_all i lines (omega (arith, length-map items (λ (line : Bor (List ℕ)). line.now)))))
      ∙ kept

-- a sealed text, part by part
pub sealed-by : (input cert none front headed sealed all : List ℕ) (before after : List (List ℕ))
    → none ≡ [] → front ≡ none ++ flat_map ended before → headed ≡ front ++ ended cert_head
    → sealed ≡ headed ++ cert → all ≡ sealed ++ flat_map ended after
    → before ≡ lines_before (whole_lines input) → after ≡ lines_after (whole_lines input)
    → all ≡ sealed_text input cert
unfolding sealed_text
sealed-by input cert none front headed sealed all before after is_none is_front is_headed is_sealed
    is_all is_before is_after =
    rw (is_all, is_sealed, is_headed, is_front, is_none, is_before, is_after) refl

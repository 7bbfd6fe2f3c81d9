-- The line that is a head.
use Rattle.std.proofs.Common.{◌≡◌, ℕ, ◌<◌, ◌≤◌, Bool, true, false, not, Bor, List, [], length}
use Rattle.std.proofs.Common.{get_or}
use Rattle.std.proofs.Common.{map, sym, ap, ◌∙◌, ◌+◌, arith, below_more}
use Rattle.std.specs.List.{prefix_len}
use Rattle.std.specs.Str.{bytes_eq}
use Rattle.std.proofs.lemmas.List.{get_or-map, length-map}
use Rattle.std.proofs.lemmas.List.Sums.{prefix_len_is}

module _ (head : List ℕ) (items : List (Bor (List ℕ))) (i : ℕ) where
  abbrev lines : List (List ℕ)
  lines = map (λ line. line.now) items

  abbrev other : List ℕ → Bool
  other line = not (bytes_eq head line)

  -- the line at a place
  line-at : (d : Bor (List ℕ)) → i < length items → get_or lines i [] ≡ (get_or items i d).now
  line-at d l = get_or-map (λ (line : Bor (List ℕ)). line.now) items i d [] l

  -- the head is found
  pub head-found : (d : Bor (List ℕ)) → i < length items
      → bytes_eq head (get_or items i d).now ≡ true
      → ((k : ℕ) → k < i → other (get_or lines k []) ≡ true) → i ≡ prefix_len other lines
  head-found d l is none =
      sym
      (prefix_len_is other lines i []
      (omega (arith, length-map items (λ (line : Bor (List ℕ)). line.now))) none
      (λ _. ap other (line-at d l) ∙ ap not is))

  -- another line is passed
  pub other-passed : (d : Bor (List ℕ)) → i < length items
      → bytes_eq head (get_or items i d).now ≡ false
      → ((k : ℕ) → k < i → other (get_or lines k []) ≡ true)
      → (k : ℕ) → k < i + 1 → other (get_or lines k []) ≡ true
  other-passed d l is none =
      below_more (λ k. other (get_or lines k []) ≡ true) i none
      (ap other (line-at d l) ∙ ap not is)

  -- and is not found
  pub no-head : length items ≤ i → ((k : ℕ) → k < i → other (get_or lines k []) ≡ true)
      → length items ≡ prefix_len other lines
  no-head l none =
      let same = length-map items (λ (line : Bor (List ℕ)). line.now) in
      sym
      (prefix_len_is other lines (length items) [] (omega (arith, same))
      (λ k lt. none k (omega arith)) (λ lt. absurd (omega (arith, same))))

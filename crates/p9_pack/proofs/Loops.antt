-- What one step of a loop over a list adds to what was made of the items before.
use Rattle.std.proofs.Common.{◌≡◌, ℕ, ◌+◌, ◌<◌, Bool, true, false, List, [], ◌∷◌, ◌++◌, Bor, length, drop}
use Rattle.std.proofs.Common.{get_or, map, refl, sym, ap, ◌∙◌}
use Rattle.std.specs.List.{fold, list_any}
use Rattle.std.specs.Str.{bytes_eq}
use Rattle.std.proofs.lemmas.List.{map-append}
use Rattle.p9_world.proofs.Loops.{next-left}
use Rattle.p9_pack.specs.Once.{with_text}

module _ {X : Type 0} (items : List X) (i : ℕ) (x d : X) where
  -- nothing is made of the item
  pub list-same : {Y : Type 0} (made_of : List X → List Y) (before after whole : List Y)
      → i < length items → x ≡ get_or items i d
      → made_of (x ∷ drop (i + 1) items) ≡ made_of (drop (i + 1) items)
      → after ≡ before → before ++ made_of (drop i items) ≡ whole
      → after ++ made_of (drop (i + 1) items) ≡ whole
  list-same made_of before after whole l at none same kept =
      ap (λ made. made ++ made_of (drop (i + 1) items)) same
      ∙ ap (λ made. before ++ made) (sym none)
      ∙ ap (λ left. before ++ made_of left) (sym (next-left items i x d l at))
      ∙ kept

  -- the item joins what is folded
  pub fold-more : {Y Z : Type 0} (step : Z → Y → Z) (view : X → Y) (before after whole : Z)
      → i < length items → x ≡ get_or items i d → after ≡ step before (view x)
      → fold step before (map view (drop i items)) ≡ whole
      → fold step after (map view (drop (i + 1) items)) ≡ whole
  fold-more step view before after whole l at more kept =
      ap (λ made. fold step made (map view (drop (i + 1) items))) more
      ∙ ap (λ left. fold step before (map view left)) (sym (next-left items i x d l at))
      ∙ kept

-- a text that is not among those that were found joins them
pub with_text-new : (found others pushed after : List (Bor (List ℕ))) (text : Bor (List ℕ))
    (among : Bool) → others ≡ found
    → among ≡ list_any (λ other. bytes_eq other text.now) (map (λ other. other.now) others)
    → among ≡ false → after ≡ pushed → pushed ≡ found ++ text ∷ []
    → map (λ other. other.now) after ≡ with_text (map (λ other. other.now) found) text.now
with_text-new found others pushed after text among same is absent kept more =
    let texts : List (Bor (List ℕ)) → List (List ℕ) = map (λ other. other.now) in
    let tested : list_any (λ other. bytes_eq other text.now) (texts found) ≡ false =
    ap (λ xs. list_any (λ other. bytes_eq other text.now) (texts xs)) (sym same) ∙ sym is ∙ absent in
    ap texts (kept ∙ more) ∙ map-append (λ other. other.now) found (text ∷ []) ∙ rw tested refl

-- a text that is among them does not
pub with_text-old : (found others after : List (Bor (List ℕ))) (text : List ℕ) (among : Bool)
    → others ≡ found
    → among ≡ list_any (λ other. bytes_eq other text) (map (λ other. other.now) others)
    → among ≡ true → after ≡ found
    → map (λ other. other.now) after ≡ with_text (map (λ other. other.now) found) text
with_text-old found others after text among same is present kept =
    let texts : List (Bor (List ℕ)) → List (List ℕ) = map (λ other. other.now) in
    let tested : list_any (λ other. bytes_eq other text) (texts found) ≡ true =
    ap (λ xs. list_any (λ other. bytes_eq other text) (texts xs)) (sym same) ∙ sym is ∙ present in
    ap texts kept ∙ rw tested refl

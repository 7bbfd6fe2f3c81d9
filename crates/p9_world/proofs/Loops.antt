-- What one step of a loop over a list adds to what was made of the items before.
use Rattle.std.proofs.Common.{◌≡◌, ℕ, ◌+◌, ◌<◌, ◌≤◌, List, [], ◌∷◌, ◌++◌, length, drop, get_or, refl}
use Rattle.std.proofs.Common.{sym, ap, ◌∙◌, append_assoc}
use Rattle.std.specs.List.{flat_map}
use Rattle.std.proofs.lemmas.List.{append-nil, drop_all, drop_more}

module _ {X : Type 0} (items : List X) (i : ℕ) (x d : X) where
  -- the item is the first of those that are left
  pub next-left : i < length items → x ≡ get_or items i d → drop i items ≡ x ∷ drop (i + 1) items
  next-left l at = drop_more items i d l ∙ ap (λ y. y ∷ drop (i + 1) items) (sym at)

  -- what is made of the item is added
  pub list-more : {Y : Type 0} (made_of : List X → List Y) (before part after whole : List Y)
      → i < length items → x ≡ get_or items i d
      → made_of (x ∷ drop (i + 1) items) ≡ part ++ made_of (drop (i + 1) items)
      → after ≡ before ++ part → before ++ made_of (drop i items) ≡ whole
      → after ++ made_of (drop (i + 1) items) ≡ whole
  list-more made_of before part after whole l at one more kept =
      ap (λ made. made ++ made_of (drop (i + 1) items)) more
      ∙ append_assoc before part (made_of (drop (i + 1) items))
      ∙ ap (λ made. before ++ made) (sym one)
      ∙ ap (λ left. before ++ made_of left) (sym (next-left l at))
      ∙ kept

  -- the text of the item is added
  pub text-more : (text_of : X → List ℕ) (before after whole : List ℕ) → i < length items
      → x ≡ get_or items i d → after ≡ before ++ text_of x
      → before ++ flat_map text_of (drop i items) ≡ whole
      → after ++ flat_map text_of (drop (i + 1) items) ≡ whole
  text-more text_of before after whole l at more kept =
      list-more (flat_map text_of) before (text_of x) after whole l at refl more kept

-- the texts of all items are added
pub text-all : {X : Type 0} (text_of : X → List ℕ) (items : List X) (i : ℕ) (text whole : List ℕ)
    → length items ≤ i → text ++ flat_map text_of (drop i items) ≡ whole → text ≡ whole
text-all text_of items i text whole l kept =
    sym (append-nil text) ∙ ap (λ left. text ++ flat_map text_of left) (sym (drop_all i items l))
    ∙ kept

-- a byte and a word are added
pub word-more : (code : ℕ) (word put before half after : List ℕ) → half ≡ before ++ code ∷ []
    → after ≡ half ++ put → put ≡ word → after ≡ before ++ code ∷ word
word-more code word put before half after first second is =
    second ∙ ap (λ text. text ++ put) first ∙ append_assoc before (code ∷ []) put
    ∙ ap (λ text. before ++ code ∷ text) is

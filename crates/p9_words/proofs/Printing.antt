-- Items printed one after the other, as a loop does.
use Rattle.std.proofs.Common.{◌≡◌, ℕ, ◌+◌, List, ◌∷◌, ◌++◌, Some, drop, ap, ◌∙◌, append_assoc}
use Rattle.std.specs.Prelude.{slice_get, codes}
use Rattle.std.proofs.lemmas.List.{drop_more}
use Rattle.std.proofs.lemmas.Option.{get_or_from_slice_get, slice_get_within}
use Rattle.p9_words.specs.Words.{items_words, number_words}
use Rattle.p9_words.specs.declared.form.Base.TheVariants.{Decimal}

-- one item more is printed, and those after it are still to be
pub one_more : (f : List ℕ → List ℕ) (items : List (List ℕ)) (i : ℕ) (item out mid new : List ℕ)
    → slice_get items i ≡ Some item
    → mid ≡ out ++ (codes " " ++ number_words Decimal i ++ codes ":") → new ≡ mid ++ f item
    → new ++ items_words f (i + 1) (drop (i + 1) items) ≡ out ++ items_words f i (drop i items)
one_more f items i item out mid new e p q =
    let here : drop i items ≡ item ∷ drop (i + 1) items =
    drop_more items i item (slice_get_within items i item e)
    ∙ ap (λ x. x ∷ drop (i + 1) items) (get_or_from_slice_get items i item item e) in
    rw (q, p, here) (simp append_assoc)

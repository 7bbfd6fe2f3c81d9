-- A loop over the items of a list that ends at the first error. Its list is read through another,
-- as the statements of a text are.
use Rattle.std.proofs.Common.{◌≡◌, ℕ, ◌+◌, ◌<◌, ◌≤◌, List, length, drop, get_or, map, Result, Ok}
use Rattle.std.proofs.Common.{Err, sym, ap, ◌∙◌, arith}
use Rattle.std.proofs.lemmas.List.{get_or-map, length-map, drop_more, drop_all}
use Rattle.p9_base.specs.Results.{and_then, try_fold}

module _ {S X Y E : Type 0} (step : S → Y → Result S E) (view : X → Y) (items : List X)
    (ys : List Y) (same : map view items ≡ ys) (state : S) (i : ℕ) where
  -- what is left at a place, with the item there
  try_fold-drop : (x d : X) → i < length items → x ≡ get_or items i d →
      try_fold step state (drop i ys)
      ≡ and_then (step state (view x)) (λ next. try_fold step next (drop (i + 1) ys))
  try_fold-drop x d l at =
      let short : i < length ys = omega (arith, ap length same, length-map items view) in
      let here : get_or ys i (view x) ≡ view x =
      ap (λ ys. get_or ys i (view x)) (sym same) ∙ get_or-map view items i d (view x) l
      ∙ ap view (sym at) in
      ap (try_fold step state) (drop_more ys i (view x) short)
      ∙ ap (λ y. and_then (step state y) (λ next. try_fold step next (drop (i + 1) ys))) here

  -- a step that goes on
  pub try_fold-ok : (next : S) (x d : X) → i < length items → x ≡ get_or items i d
      → step state (view x) ≡ Ok next →
      try_fold step next (drop (i + 1) ys) ≡ try_fold step state (drop i ys)
  try_fold-ok next x d l at ok =
      sym (try_fold-drop x d l at
      ∙ ap (λ r. and_then r (λ next. try_fold step next (drop (i + 1) ys))) ok)

  -- a step that is refused
  pub try_fold-err : (error : E) (x d : X) → i < length items → x ≡ get_or items i d
      → step state (view x) ≡ Err error →
      try_fold step state (drop i ys) ≡ Err error
  try_fold-err error x d l at err =
      try_fold-drop x d l at
      ∙ ap (λ r. and_then r (λ next. try_fold step next (drop (i + 1) ys))) err

  -- after the last item
  pub try_fold-end : length items ≤ i → try_fold step state (drop i ys) ≡ Ok state
  try_fold-end l =
      ap (try_fold step state)
      (drop_all i ys (omega (arith, ap length same, length-map items view)))

-- What is found of the items of a list, which is read through another, as the statements of a text
-- are.
use Rattle.std.proofs.Common.{◌≡◌, ℕ, ◌+◌, ◌<◌, ◌≤◌, List, [], ◌∷◌, ◌++◌, length, drop, get_or}
use Rattle.std.proofs.Common.{map, Option, None, Some, Result, Ok, Err, refl, sym, ap, ◌∙◌, subst, arith}
use Rattle.std.proofs.Common.{append_assoc}
use Rattle.std.specs.Prelude.{slice_get}
use Rattle.std.specs.List.{cons_option, filter_map}
use Rattle.std.specs.Result.{result_err}
use Rattle.std.proofs.lemmas.List.{get_or-map, length-map, drop_more, drop_all}
use Rattle.p9_base.specs.Results.{and_then, try_fold}

option-append : {Z : Type 0} (found : Option Z) (rest : List Z)
    → cons_option found [] ++ rest ≡ cons_option found rest
option-append None rest = refl
option-append (Some z) rest = refl

module _ {X Y Z : Type 0} (view : X → Y) (find : Y → Option Z) (items : List X) (ys : List Y)
    (same : map view items ≡ ys) (i : ℕ) where
  -- what is left at a place, with the item there
  found-drop : (x d : X) → i < length items → x ≡ get_or items i d →
      filter_map find (drop i ys)
      ≡ cons_option (find (view x)) (filter_map find (drop (i + 1) ys))
  found-drop x d l at =
      let short : i < length ys = omega (arith, ap length same, length-map items view) in
      let here : get_or ys i (view x) ≡ view x =
      ap (λ ys. get_or ys i (view x)) (sym same) ∙ get_or-map view items i d (view x) l
      ∙ ap view (sym at) in
      ap (filter_map find) (drop_more ys i (view x) short)
      ∙ ap (λ y. cons_option (find y) (filter_map find (drop (i + 1) ys))) here

  -- what was found and what is left to find, with one item more
  pub found-more : (before after : List Z) (found : Option Z) (all : List Z) (x d : X)
      → i < length items → x ≡ get_or items i d → find (view x) ≡ found
      → after ≡ before ++ cons_option found [] → before ++ filter_map find (drop i ys) ≡ all →
      after ++ filter_map find (drop (i + 1) ys) ≡ all
  found-more before after found all x d l at is added kept =
      let rest = filter_map find (drop (i + 1) ys) in
      ap (λ a. a ++ rest) added ∙ append_assoc before (cons_option found []) rest
      ∙ ap (λ r. before ++ r)
      (option-append found rest ∙ ap (λ f. cons_option f rest) (sym is) ∙ sym (found-drop x d l at))
      ∙ kept

  -- after the last item
  pub found-end : length items ≤ i → filter_map find (drop i ys) ≡ []
  found-end l =
      ap (filter_map find) (drop_all i ys (omega (arith, ap length same, length-map items view)))

-- the first that is found is the error at which a loop ends
first-of : {S E : Type 0} (r : Result S E) (found : Option E) (rest : List E)
    (after : S → Result S E) → result_err r ≡ found
    → ((s : S) → slice_get rest 0 ≡ result_err (after s))
    → slice_get (cons_option found rest) 0 ≡ result_err (and_then r after)
first-of (Ok s) found rest after is later =
    subst (λ f. slice_get (cons_option f rest) 0 ≡ result_err (after s)) is (later s)
first-of (Err e) found rest after is later =
    subst (λ f. slice_get (cons_option f rest) 0 ≡ Some e) is refl

pub first-found : {S X E : Type 0} (step : S → X → Result S E) (find : X → Option E)
    → ((s : S) (x : X) → result_err (step s x) ≡ find x) → (s : S) (xs : List X)
    → slice_get (filter_map find xs) 0 ≡ result_err (try_fold step s xs)
first-found step find agree s [] = refl
first-found step find agree s (x ∷ xs) =
    first-of (step s x) (find x) (filter_map find xs) (λ next. try_fold step next xs) (agree s x)
    (λ next. first-found step find agree next xs)

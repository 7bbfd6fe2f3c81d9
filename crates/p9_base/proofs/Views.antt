-- Lists that are seen through a view, as texts are seen as their bytes: what is looked for in the
-- one is looked for in the other.
use Rattle.std.proofs.Common.{◌≡◌, ◌+◌, Bool, true, false, cond, List, [], ◌∷◌, ◌||◌, Some, map}
use Rattle.std.proofs.Common.{not, position, find, refl, ap}
use Rattle.std.proofs.lemmas.List.{length-map}
use Rattle.std.specs.Option.{option_map}
use Rattle.std.specs.List.{list_any, position_or_len, prefix_len}

module _ {X Y : Type 0} (view : X → Y) (test : Y → Bool) where
  -- whether an element passes
  pub list_any-map : (xs : List X) → list_any (λ x. test (view x)) xs ≡ list_any test (map view xs)
  list_any-map [] = refl
  list_any-map (x ∷ xs) = ap (λ b. test (view x) || b) (list_any-map xs)

  -- how many pass at the front
  pub prefix_len-map : (xs : List X)
      → prefix_len (λ x. test (view x)) xs ≡ prefix_len test (map view xs)
  prefix_len-map [] = refl
  prefix_len-map (x ∷ xs) = ap (λ n. cond (test (view x)) (1 + n) 0) (prefix_len-map xs)

  -- the first that passes
  pub find-map : (xs : List X)
      → option_map view (find (λ x. test (view x)) xs) ≡ find test (map view xs)
  find-map [] = refl
  find-map (x ∷ xs) = found (test (view x)) (find-map xs) where
    found : (b : Bool) → option_map view (find (λ x. test (view x)) xs) ≡ find test (map view xs)
        → option_map view (cond b (Some x) (find (λ x. test (view x)) xs))
        ≡ cond b (Some (view x)) (find test (map view xs))
    found true same = refl
    found false same = same

-- the first place of one that passes
pub position-map : {X Y : Type 0} (view : X → Y) (test : Y → Bool) (xs : List X)
    → position (λ x. test (view x)) xs ≡ position test (map view xs)
position-map view test xs =
    let place : position_or_len (λ x. test (view x)) xs ≡ position_or_len test (map view xs) =
    prefix_len-map view (λ y. not (test y)) xs in
    rw (place, length-map xs view) refl

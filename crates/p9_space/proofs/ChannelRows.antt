-- Rows of the places of channels.
use Rattle.std.proofs.Common.{◌≡◌, ℕ, ◌-◌, ◌≤◌, ◌∷◌, ◌++◌, [], zero, suc, refl, Bool, true, false, cond, List, Option, Some, None}
use Rattle.std.proofs.Common.{sym, ap, ◌∙◌, arith, get_or, length, map, take}
use Rattle.std.specs.Prelude.{nat_lt, replicate, slice_get}
use Rattle.std.specs.Option.{option_map}
use Rattle.std.proofs.lemmas.Option.{get_or_from_slice_get, slice_get-map}
use Rattle.std.proofs.lemmas.List.{length-take-le, take-map, take-take, take_all}
use Rattle.p9_base.specs.declared.node_ref.NodeRef.{NodeRef}
use Rattle.p9_table.specs.Table.{MountRow, row_position}
use Rattle.p9_table.specs.Trail.{upward}
use Rattle.p9_space.specs.Channel.{rows_of}

-- channels fit after a step back
pub rows-upward : (table : List MountRow) (trail : List NodeRef) (rows : List (Option ℕ))
    → rows ≡ rows_of table trail → take (length (upward trail)) rows ≡ rows_of table (upward trail)
rows-upward table trail rows fits =
    ap (take (length (upward trail))) fits
    ∙ take-map (λ key. row_position key table) (length (upward trail)) trail
    ∙ ap (map (λ key. row_position key table)) (front (nat_lt 1 (length trail)))
  where
    front : (b : Bool)
        → take (length (cond b (take (length trail - 1) trail) trail)) trail
        ≡ cond b (take (length trail - 1) trail) trail
    front true =
        ap (λ n. take n trail) (length-take-le (length trail - 1) trail (omega arith))
    front false = take_all (length trail) trail (omega arith)

-- the rows of fewer places are the first of the rows
pub rows-shorter : (table : List MountRow) (places : List NodeRef) (rows : List (Option ℕ)) (fewer n : ℕ)
    → fewer ≤ n → take n rows ≡ rows_of table (take n places)
    → take fewer rows ≡ rows_of table (take fewer places)
rows-shorter table places rows fewer n less fits =
    sym (shorter rows)
    ∙ ap (take fewer) fits
    ∙ take-map (λ key. row_position key table) fewer (take n places)
    ∙ ap (rows_of table) (shorter places)
  where
    shorter : {X : Type 0} → (xs : List X) → take fewer (take n xs) ≡ take fewer xs
    shorter xs = take-take fewer n xs less

-- the row that is kept at the position of a place is the place's
pub row-read : (table : List MountRow) (trail : List NodeRef) (rows : List (Option ℕ)) (i : ℕ)
    (place : NodeRef) → rows ≡ rows_of table trail → slice_get trail i ≡ Some place
    → get_or rows i None ≡ row_position place table
row-read table trail rows i place fits at =
    get_or_from_slice_get rows i (row_position place table) None
    (ap (λ rows. slice_get rows i) fits
    ∙ slice_get-map (λ key. row_position key table) trail i
    ∙ ap (option_map (λ key. row_position key table)) at)

-- the rows of one place, many times
filled : (table : List MountRow) (place : NodeRef) (n : ℕ)
    → replicate n (row_position place table) ≡ rows_of table (replicate n place)
filled table place zero = refl
filled table place (suc n) = ap (λ rows. row_position place table ∷ rows) (filled table place n)

pub rows-filled : (table : List MountRow) (place : NodeRef) (n len : ℕ) (rows : List (Option ℕ))
    → rows ≡ [] → len ≡ 0
    → take n rows ++ replicate (n - len) (row_position place table) ≡ rows_of table (replicate n place)
rows-filled table place n len rows empty none =
    let whole : n - len ≡ n = omega arith in
    let front : take n rows ≡ [] = ap (take n) empty ∙ take_all n [] (omega arith) in
    rw (front, whole) (filled table place n)

-- Rows of a table, one after another.
use Rattle.std.proofs.Common.{◌≡◌, ℕ, zero, suc, ◌<◌, Bool, List, [], ◌∷◌, Some, None, refl, drop}
use Rattle.std.proofs.Common.{length, arith}
use Rattle.std.specs.Prelude.{◌&&◌, slice_get}
use Rattle.std.specs.List.{list_all}

-- the test of the rest is that of its first, and of what is behind
pub list_all-rest : {X : Type 0} (p : X → Bool) (xs : List X) (i : ℕ) (x : X)
    → slice_get xs i ≡ Some x → list_all p (drop i xs) ≡ (p x && list_all p (drop (suc i) xs))
list_all-rest p [] i x found = let none : None ≡ Some x = found in absurd (cc)
list_all-rest p (y ∷ ys) zero x found =
    let is : Some y ≡ Some x = found in let same : y ≡ x = cc in rw same refl
list_all-rest p (y ∷ ys) (suc i) x found = list_all-rest p ys i x found

-- a position within the list has a value
pub none-past : {X : Type 0} (xs : List X) (i : ℕ) → slice_get xs i ≡ None → i < length xs → ⊥
none-past [] i none within = omega arith
none-past (y ∷ ys) zero none within = let no : Some y ≡ None = none in cc
none-past (y ∷ ys) (suc i) none within = none-past ys i none (omega arith)

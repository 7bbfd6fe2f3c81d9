-- A value made and run in each of several turns.
use Rattle.std.specs.Prelude.{◌≡◌, ℕ, length, List}
use Rattle.std.specs.List.{FoldsTo}

-- In n turns `make` became `made`, and `run` became `ran`: each turn made a value and then ran it.
pub record TakesTurns {M R V : Type 0} (Makes : M → V → M → Type 0)
    (Runs : R → V → Unit {0} → R → Type 0) (make made : M) (run ran : R) (n : ℕ) : Type 0 where
  pub values : List V
  pub makes : FoldsTo Makes make values made
  pub runs : FoldsTo (λ before value after. Runs before value tt after) run values ran
  pub count : length values ≡ n

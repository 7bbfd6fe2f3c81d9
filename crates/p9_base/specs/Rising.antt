-- Maps from numbers, as lists of rows.
use Rattle.std.specs.Prelude.{ℕ, List}
use Rattle.std.specs.List.Sorted.{IsStrictlySortedBy}
use Rattle.std.specs.Map.{keys_of}
use Rattle.std.specs.Ordering.{nat_cmp}

-- each row's number is below those of the rows after it
abbrev pub IsRising : {X : Type 0} → List (ℕ × X) → Type 0
IsRising rows = IsStrictlySortedBy nat_cmp (keys_of rows)

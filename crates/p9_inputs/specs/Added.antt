-- What is appended to what was printed and reported before.
use Rattle.std.specs.Prelude.{◌≡◌, ◌++◌, ℕ, List}

-- these two texts are appended
abbrev pub Adds : (printed reported out_before out_after err_before err_after : List ℕ) → Type 0
Adds printed reported out_before out_after err_before err_after =
    (out_after ≡ out_before ++ printed) × (err_after ≡ err_before ++ reported)

-- nothing is appended
abbrev pub IsAsBefore : (out_before out_after err_before err_after : List ℕ) → Type 0
IsAsBefore out_before out_after err_before err_after =
    (out_after ≡ out_before) × (err_after ≡ err_before)

-- Variables with their values, as a world has them and a namespace file reads them.
use Rattle.std.specs.Prelude.{ℕ, List, map, string_bytes}
use Rattle.std.specs.declared.string.String.{String}

-- a name and its value
abbrev pub Variable : Type 0
Variable = List ℕ × List ℕ

-- the variables, from the code's texts
abbrev pub variables_of : {A : Type 0} → List (String A × String A) → List Variable
variables_of vars = map (λ var. (string_bytes var.0, string_bytes var.1)) vars

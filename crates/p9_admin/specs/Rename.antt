-- Names of the disk that become others in a world.
use Rattle.std.specs.Prelude.{ℕ, Bool, false, List, Option, None, Some, not, ◌&&◌, ◌||◌}
use Rattle.std.specs.Str.{bytes_eq}

-- there is a text, and it is this one
abbrev pub is_that : Option (List ℕ) → List ℕ → Bool
is_that None name = false
is_that (Some other) name = bytes_eq other name

-- a name was renamed to one that a neighbour by name gets too
abbrev pub is_taken : List ℕ → List ℕ → Option (List ℕ) → Option (List ℕ) → Bool
is_taken name disk before after =
    not (bytes_eq name disk) && (is_that before name || is_that after name)

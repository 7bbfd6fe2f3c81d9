-- What may be said freely: lines that begin as no line does of which more is promised.
use Rattle.std.specs.Prelude.{◌≡◌, ℕ, ◌||◌, Bool, nat_eq, List, [], ◌∷◌, ◌++◌, codes, filter, slice_get}
use Rattle.std.specs.Prelude.{unwrap_or}
use Rattle.std.specs.List.{flat_map, starts_with}
use Rattle.p9_base.specs.Line.{lines_of}

-- a hint, how a leak is mended, a further leak, or a line that is indented
abbrev pub is_free : List ℕ → Bool
is_free line =
    starts_with nat_eq line (codes "hint: ") || starts_with nat_eq line (codes "mend: ")
    || starts_with nat_eq line (codes "also: ") || starts_with nat_eq line (codes "  ")

-- a line with its newline
abbrev pub ended : List ℕ → List ℕ
ended line = line ++ 10 ∷ []

-- the free lines of what is said
abbrev pub free_lines : List ℕ → List ℕ
free_lines said = flat_map ended (filter is_free (lines_of said))

-- the text is the free lines of something that is said
abbrev pub AreFree : List ℕ → Type 0
AreFree text = (said : List ℕ) × (text ≡ free_lines said)

-- the first line of what is said, without the newline
abbrev pub first_line : List ℕ → List ℕ
first_line said = unwrap_or (slice_get (lines_of said) 0) []

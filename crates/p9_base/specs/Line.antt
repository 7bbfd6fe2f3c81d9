-- The lines of a text, and the words of a line.
use Rattle.std.specs.Prelude.{ℕ, ◌-◌, ◌==◌, ◌&&◌, ◌||◌, Bool, true, nat_lt, List, [], ◌∷◌, length}
use Rattle.std.specs.Prelude.{filter, slice_index, take, if◌then◌else◌}
use Rattle.std.specs.List.{slice_index_or, slice_split}

-- a line ends at a newline, or at the end of the text
abbrev pub lines_of : List ℕ → List (List ℕ)
lines_of text = slice_split (λ b. b == 10) text

-- whether the last line is empty
abbrev pub ends_empty : List (List ℕ) → Bool
ends_empty lines =
    nat_lt 0 (length lines) && length (slice_index_or lines (length lines - 1) []) == 0

-- the lines of a text, but for the empty one after a newline at its end
unfoldable pub whole_lines : List ℕ → List (List ℕ)
whole_lines text =
    let lines = lines_of text in
    if ends_empty lines then take (length lines - 1) lines else lines

-- a blank or a tab
abbrev pub is_blank : ℕ → Bool
is_blank b = b == 32 || b == 9

-- the words of a line are what is between blanks
abbrev pub words_of : List ℕ → List (List ℕ)
words_of line = filter (λ word. nat_lt 0 (length word)) (slice_split is_blank line)

-- a line without words is skipped, and so is a comment, whose first word begins with '#'
abbrev pub is_skipped : List (List ℕ) → Bool
is_skipped [] = true
is_skipped (first ∷ others) = slice_index first 0 == 35

-- The lines of an input, and where its sections begin.
use Rattle.std.specs.Prelude.{ℕ, ◌+◌, ◌-◌, ◌==◌, ◌&&◌, Bool, not, nat_lt, List, [], length, take}
use Rattle.std.specs.Prelude.{drop, codes, if◌then◌else◌}
use Rattle.std.specs.List.{prefix_len, slice_index_or}
use Rattle.std.specs.Str.{bytes_eq}

-- how many lines are before the first one that is this head
abbrev pub lines_before : List ℕ → List (List ℕ) → ℕ
lines_before head lines = prefix_len (λ line. not (bytes_eq head line)) lines

-- the line that begins a script, and the one that begins what was printed for it
abbrev pub script_head : List ℕ
script_head = codes "%% script"

abbrev pub replies_head : List ℕ
replies_head = codes "%% replies"

-- the lines up to the one that begins the script
unfoldable pub head_lines : List (List ℕ) → List (List ℕ)
head_lines lines = take (lines_before script_head lines + 1) lines

-- and those after it
unfoldable pub script_lines : List (List ℕ) → List (List ℕ)
script_lines lines = drop (lines_before script_head lines + 1) lines

-- All bad lines of the text of a certificate.
use Rattle.std.specs.Prelude.{ℕ, ◌+◌, ◌^◌, ◌&&◌, Bool, true, false, List, [], ◌∷◌, ◌++◌, Option, Some}
use Rattle.std.specs.Prelude.{None, codes, is_some, nat_lt, if◌then◌else◌}
use Rattle.std.specs.Option.{option_map_or}
use Rattle.std.specs.Str.{bytes_eq}
use Rattle.p9_base.specs.Decimal.{number_of}
use Rattle.p9_base.specs.declared.node_ref.NodeRef.{NodeRef}
use Rattle.p9_base.specs.Statement.{statements_of}
use Rattle.p9_policy.specs.declared.faults.BadLine.{BadLine}
use Rattle.p9_policy.specs.declared.faults.LastRows.{LastRows}
use Rattle.p9_policy.specs.declared.faults.LineFault.TheVariants.{First, Row}
use Rattle.p9_policy.specs.Rows.{is_below}
use Rattle.p9_policy.specs.Text.{is_head, row_in}

-- no row is read yet
abbrev pub no_rows : LastRows
no_rows = record { last = None; before = None }

-- it is greater than a row, if there is one
abbrev pub is_behind : Option NodeRef → NodeRef → Bool
is_behind before row = option_map_or (λ before. is_below before row) before true

-- a line says a row, and that is greater than the last one
abbrev pub rises : LastRows → Option NodeRef → Bool
rises rows None = false
rises rows (Some row) = is_behind rows.last row

-- the last row is greater than this one, and the row before the last is less: the last one is then
-- out of its place
abbrev pub is_last_misplaced : LastRows → NodeRef → Bool
is_last_misplaced rows row =
    option_map_or (λ last. is_below row last) rows.last false && is_behind rows.before row

-- the last rows with that of a line: it comes behind them, or in the place of the last one where
-- that is out of its place, or else it is not read
abbrev pub rows_with : LastRows → Option NodeRef → LastRows
rows_with rows None = rows
rows_with rows (Some row) =
    if is_behind rows.last row then record { last = Some row; before = rows.last }
    else if is_last_misplaced rows row then record { last = Some row; before = rows.before }
    else rows

-- Which word of a line is wrong.

-- the place of the first word that does not pass its test, from 0: behind the last word where one is
-- missing, and behind the last test where there is one word too many
abbrev pub first_bad_word : List (List ℕ → Bool) → List (List ℕ) → ℕ
first_bad_word (test ∷ tests) (word ∷ words) =
    if test word then 1 + first_bad_word tests words else 0
first_bad_word tests words = 0

-- in `cert 1`
abbrev pub bad_head_word : List (List ℕ) → ℕ
bad_head_word =
    first_bad_word ((λ w. bytes_eq w (codes "cert")) ∷ (λ w. bytes_eq w (codes "1")) ∷ [])

-- in `dir SERVER NUMBER`
abbrev pub bad_row_word : List (List ℕ) → ℕ
bad_row_word =
    first_bad_word
    ((λ w. bytes_eq w (codes "dir")) ∷ (λ w. is_some (number_of (2 ^ 16) w))
    ∷ (λ w. is_some (number_of (2 ^ 48) w)) ∷ [])

-- of a row that is not greater than the last one: its server, where that is less, or else its number
abbrev pub low_word : LastRows → NodeRef → ℕ
low_word rows row =
    if option_map_or (λ last. nat_lt row.server last.server) rows.last false then 1 else 2

-- of a line that says no row, or one that is not greater than the last one
abbrev pub bad_word : LastRows → List (List ℕ) → Option NodeRef → ℕ
bad_word rows words None = bad_row_word words
bad_word rows words (Some row) = low_word rows row

-- The bad lines.

-- a statement, where it says no row that is greater than the last one
abbrev pub bad_row_in : LastRows → ℕ × List (List ℕ) → Option NodeRef → List BadLine
bad_row_in rows statement row =
    if rises rows row then []
    else record { line = statement.0; kind = Row; word = bad_word rows statement.1 row } ∷ []

-- the bad lines among the statements behind these rows
abbrev pub bad_rows_in : LastRows → List (ℕ × List (List ℕ)) → List BadLine
bad_rows_in rows [] = []
bad_rows_in rows (statement ∷ others) =
    let row = row_in statement.1 in
    bad_row_in rows statement row ++ bad_rows_in (rows_with rows row) others

-- the first line, where it is not `cert 1`
abbrev pub bad_head_in : ℕ × List (List ℕ) → List BadLine
bad_head_in head =
    if is_head head.1 then []
    else record { line = head.0; kind = First; word = bad_head_word head.1 } ∷ []

-- the bad lines among all statements of a text; line 1 is bad where there is none
abbrev pub bad_lines_among : List (ℕ × List (List ℕ)) → List BadLine
bad_lines_among [] = record { line = 1; kind = First; word = 0 } ∷ []
bad_lines_among (head ∷ others) = bad_head_in head ++ bad_rows_in no_rows others

-- the bad lines of a text, in order
abbrev pub bad_lines_in : List ℕ → List BadLine
bad_lines_in text = bad_lines_among (statements_of text)

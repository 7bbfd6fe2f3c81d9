-- The bad lines of a text: one statement more, and that the first of them is the one for which the
-- text is refused.
use Rattle.std.proofs.Common.{◌≡◌, ℕ, ◌+◌, ◌-◌, ◌<◌, Bool, true, false, List, [], ◌∷◌, ◌++◌, length}
use Rattle.std.proofs.Common.{drop, get_or, map, Option, Some, None, Result, refl, sym, ap}
use Rattle.std.proofs.Common.{◌∙◌, append_assoc, length-append, arith}
use Rattle.std.specs.Prelude.{option_map, slice_get}
use Rattle.std.specs.Result.{result_err}
use Rattle.std.proofs.lemmas.List.{get_or-map, get_or_push, length-map, at_drop_more}
use Rattle.std.proofs.lemmas.Option.{slice_get_read}
use Rattle.p9_base.specs.declared.node_ref.NodeRef.{NodeRef}
use Rattle.p9_base.specs.Results.{and_then, try_fold}
use Rattle.p9_base.specs.Statement.{statements_of}
use Rattle.p9_policy.specs.declared.faults.BadLine.{BadLine}
use Rattle.p9_policy.specs.declared.faults.LastRows.{LastRows}
use Rattle.p9_policy.specs.Faults.{bad_lines_among, bad_lines_in, bad_row_in, bad_rows_in, is_behind}
use Rattle.p9_policy.specs.Faults.{no_rows, rows_with}
use Rattle.p9_policy.specs.Rows.{may_follow}
use Rattle.p9_policy.specs.Text.{certificate_of, is_head, row_in, stated, with_next_row, with_statement}

module _ {X : Type 0} (view : X → ℕ × List (List ℕ)) (items : List X) (i : ℕ) (x d : X)
    (rows : LastRows) (l : i < length items) (at : x ≡ get_or items i d) where
  -- the bad rows from a place on: what is found of the statement there, and behind it
  bad_rows-drop : bad_rows_in rows (drop i (map view items))
      ≡ bad_row_in rows (view x) (row_in (view x).1)
      ++ bad_rows_in (rows_with rows (row_in (view x).1)) (drop (i + 1) (map view items))
  bad_rows-drop =
      let short : i < length (map view items) = omega (arith, length-map items view) in
      let here : get_or (map view items) i (view x) ≡ view x =
      get_or-map view items i d (view x) l ∙ ap view (sym at) in
      at_drop_more (bad_rows_in rows) (map view items) i (view x) short
      ∙ ap (λ y. bad_row_in rows y (row_in y.1)
      ++ bad_rows_in (rows_with rows (row_in y.1)) (drop (i + 1) (map view items))) here

  -- what was found and what is left to find, with one statement more
  pub bad_rows-more : (before after all : List BadLine) (row : Option NodeRef) (next : LastRows)
      → row ≡ row_in (view x).1 → after ≡ before ++ bad_row_in rows (view x) row
      → next ≡ rows_with rows row → before ++ bad_rows_in rows (drop i (map view items)) ≡ all →
      after ++ bad_rows_in next (drop (i + 1) (map view items)) ≡ all
  bad_rows-more before after all row next says added goes_on kept =
      let others = drop (i + 1) (map view items) in
      let statement = view x in
      ap (λ a. a ++ bad_rows_in next others) added
      ∙ ap (λ n. (before ++ bad_row_in rows statement row) ++ bad_rows_in n others) goes_on
      ∙ append_assoc before (bad_row_in rows statement row) (bad_rows_in (rows_with rows row) others)
      ∙ ap (λ r. before ++ (bad_row_in rows statement r ++ bad_rows_in (rows_with rows r) others)) says
      ∙ ap (λ found. before ++ found) (sym bad_rows-drop) ∙ kept

-- the number of the first bad line
abbrev first_line : List BadLine → Option ℕ
first_line found = option_map (λ bad. bad.line) (slice_get found 0)

-- the last of some rows
abbrev last_of : List NodeRef → Option NodeRef
last_of rows = slice_get rows (length rows - 1)

last-push : (rows : List NodeRef) (row : NodeRef) → last_of (rows ++ row ∷ []) ≡ Some row
last-push rows row =
    let long : length (rows ++ row ∷ []) - 1
    ≡ length rows = omega (arith, length-append rows (row ∷ [])) in
    slice_get_read (rows ++ row ∷ []) (length (rows ++ row ∷ [])) (length
    (rows ++ row ∷ []) - 1) row
    refl (omega (arith, length-append rows (row ∷ [])))
    (sym (get_or_push rows row row (length (rows ++ row ∷ []) - 1) (sym long)))

-- one line more, whose row is greater than the last one or not
module _ (last : LastRows) (rows : List NodeRef) (same : last_of rows ≡ last.last) (statement : ℕ × List (List ℕ))
    (others : LastRows → List BadLine) (after : List NodeRef → Result (List NodeRef) ℕ)
    (later : (l : LastRows) (rs : List NodeRef) → last_of rs ≡ l.last
    → first_line (others l) ≡ result_err (after rs)) where
  first-of-row : (row : NodeRef) (b : Bool) → is_behind last.last row ≡ b →
      first_line (bad_row_in last statement (Some row) ++ others (rows_with last (Some row)))
      ≡ result_err (and_then (with_next_row rows statement.0 (Some row)) after)
  first-of-row row true is =
      let follows : may_follow rows row ≡ true = ap (λ l. is_behind l row) same ∙ is in
      rw (is, follows)
      (later (record { last = Some row; before = last.last }) (rows ++ row ∷ []) (last-push rows row))
  first-of-row row false is =
      let follows : may_follow rows row ≡ false = ap (λ l. is_behind l row) same ∙ is in
      rw (is, follows) refl

  first-of-line : (row : Option NodeRef) →
      first_line (bad_row_in last statement row ++ others (rows_with last row))
      ≡ result_err (and_then (with_next_row rows statement.0 row) after)
  first-of-line None = refl
  first-of-line (Some row) = first-of-row row (is_behind last.last row) refl

first-row : (last : LastRows) (rows : List NodeRef) (statements : List (ℕ × List (List ℕ)))
    → last_of rows ≡ last.last →
    first_line (bad_rows_in last statements) ≡ result_err (try_fold with_statement rows statements)
first-row last rows [] same = refl
first-row last rows (statement ∷ others) same =
    first-of-line last rows same statement (λ l. bad_rows_in l others)
    (λ rs. try_fold with_statement rs others) (λ l rs. first-row l rs others) (row_in statement.1)

first-among : (statements : List (ℕ × List (List ℕ)))
    → first_line (bad_lines_among statements) ≡ result_err (stated statements)
first-among [] = refl
first-among (head ∷ others) = by_head (is_head head.1) refl where
  by_head : (b : Bool) → is_head head.1 ≡ b
      → first_line (bad_lines_among (head ∷ others)) ≡ result_err (stated (head ∷ others))
  by_head true is = rw is (first-row no_rows [] others refl)
  by_head false is = rw is refl

pub first-bad : (text : List ℕ)
    → first_line (bad_lines_in text) ≡ result_err (certificate_of text)
first-bad text = first-among (statements_of text)

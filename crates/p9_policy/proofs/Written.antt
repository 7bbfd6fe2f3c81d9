-- What is written of a certificate reads back.
use Rattle.std.proofs.Common.{◌≡◌, ℕ, suc, ◌+◌, ◌-◌, ◌^◌, ◌<◌, true, false}
use Rattle.std.proofs.Common.{List, [], ◌∷◌, ◌++◌, length, map, Option, Some, None}
use Rattle.std.proofs.Common.{Ok, refl, sym, ap, ◌∙◌, subst, arith, rules}
use Rattle.std.proofs.Common.{append_assoc}
use Rattle.std.proofs.Common.{length-append, All, AllPairs}
use Rattle.std.specs.Prelude.{◌==◌, nat_lt, not, filter, codes, slice_get, IsTrue}
use Rattle.std.specs.Char.{is_ascii_digit}
use Rattle.std.specs.Fmt.{decimal}
use Rattle.std.specs.List.{AllByRecursion, enumerate_from, flat_map, list_all}
use Rattle.std.specs.Option.{option_map_or}
use Rattle.std.specs.Str.Parse.{digits_value}
use Rattle.std.proofs.lemmas.Bool.{and_parts, lt-ltb}
use Rattle.std.proofs.lemmas.Bool.Decides.{nat_tests}
use Rattle.std.proofs.lemmas.Fmt.{decimal_nonempty, digits_decimal, digits_value-decimal}
use Rattle.std.proofs.lemmas.List.{append-nil, get_or_push}
use Rattle.std.proofs.lemmas.List.Elements.{All-append, All-from_recursion, recursion_from_All}
use Rattle.std.proofs.lemmas.List.Splits.{slice_split_at, slice_split_none}
use Rattle.std.proofs.lemmas.Option.{slice_get_read}
use Rattle.std.proofs.lemmas.Str.Parse.{IsNumeralModel, numerals_by_value}
use Rattle.p9_base.specs.declared.node_ref.NodeRef.{NodeRef}
use Rattle.p9_base.specs.Decimal.{number_of}
use Rattle.p9_base.specs.Line.{is_blank, is_skipped, lines_of, words_of}
use Rattle.p9_base.specs.NodeRef.{servers_max}
use Rattle.p9_base.specs.Results.{try_fold}
use Rattle.p9_base.specs.Statement.{statements_of}
use Rattle.p9_tree.specs.Server.{next_max}
use Rattle.p9_policy.specs.Laws.{WrittenReadsBack}
use Rattle.p9_policy.specs.Rows.{IsRow, is_below}
use Rattle.p9_policy.specs.Text.{row_in, row_text, stated}
use Rattle.p9_policy.specs.Text.{with_statement}

-- Numbers.

-- a word of digits is what a number writes
model : IsNumeralModel (λ ds. list_all is_ascii_digit ds ≡ true) (digits_value 10)
model = numerals_by_value _ (search rules)

-- a number that is written is read back
number-decimal : (limit n : ℕ) → n < 2 ^ 64 → n < limit → number_of limit (decimal n) ≡ Some n
unfolding number_of
number-decimal limit n small below =
    let digits : list_all is_ascii_digit (decimal n) ≡ true = digits_decimal model n small in
    let value : digits_value 10 (decimal n) ≡ n = digits_value-decimal model n small in
    let some : 0 < length (decimal n) = decimal_nonempty n small in
    let not_empty : (length (decimal n) == 0) ≡ false = grind (arith, nat_tests) in
    rw (value, digits, not_empty, lt-ltb n limit below) refl

-- no digit is a newline or a blank
no-newlines : (ds : List ℕ) → list_all is_ascii_digit ds ≡ true
    → AllByRecursion (λ b. (b == 10) ≡ false) ds
no-newlines [] t = tt
no-newlines (d ∷ ds) t =
    let parts = and_parts (is_ascii_digit d) (list_all is_ascii_digit ds) t in
    let digit : is_ascii_digit d ≡ true = parts.0 in
    (grind (arith, nat_tests), no-newlines ds parts.1)

no-blanks : (ds : List ℕ) → list_all is_ascii_digit ds ≡ true
    → AllByRecursion (λ b. is_blank b ≡ false) ds
no-blanks [] t = tt
no-blanks (d ∷ ds) t =
    let parts = and_parts (is_ascii_digit d) (list_all is_ascii_digit ds) t in
    let digit : is_ascii_digit d ≡ true = parts.0 in
    (grind (arith, nat_tests), no-blanks ds parts.1)

module _ (n : ℕ) (small : n < 2 ^ 64) where
  decimal-newlines : All (λ b. (b == 10) ≡ false) (decimal n)
  decimal-newlines =
      All-from_recursion (λ b. (b == 10) ≡ false) (decimal n)
      (no-newlines (decimal n) (digits_decimal model n small))

  decimal-blanks : All (λ b. is_blank b ≡ false) (decimal n)
  decimal-blanks =
      All-from_recursion (λ b. is_blank b ≡ false) (decimal n)
      (no-blanks (decimal n) (digits_decimal model n small))

  decimal-some : nat_lt 0 (length (decimal n)) ≡ true
  decimal-some = lt-ltb 0 (length (decimal n)) (decimal_nonempty n small)

-- Lines.

-- the line of a row, without its end
line_of : NodeRef → List ℕ
line_of row = codes "dir " ++ decimal row.server ++ codes " " ++ decimal row.number

-- its words
row_words : NodeRef → List (List ℕ)
row_words row = codes "dir" ∷ decimal row.server ∷ decimal row.number ∷ []

module _ (row : NodeRef) (sound : IsRow row) where
  server-small : row.server < 2 ^ 64
  server-small = let lt : row.server < 2 ^ 16 = sound.0 in omega arith

  number-small : row.number < 2 ^ 64
  number-small = let lt : row.number < 2 ^ 48 = sound.1 in omega arith

  line-newlines : All (λ b. (b == 10) ≡ false) (line_of row)
  unfolding line_of
  line-newlines =
      All-append (λ b. (b == 10) ≡ false) (codes "dir " ++ decimal row.server ++ codes " ")
      (decimal row.number)
      (All-append (λ b. (b == 10) ≡ false) (codes "dir " ++ decimal row.server) (codes " ")
      (All-append (λ b. (b == 10) ≡ false) (codes "dir ") (decimal row.server)
      (All-from_recursion (λ b. (b == 10)
      ≡ false) (codes "dir ") (refl, (refl, (refl, (refl, tt)))))
      (decimal-newlines row.server server-small))
      (All-from_recursion (λ b. (b == 10) ≡ false) (codes " ") (refl, tt)))
      (decimal-newlines row.number number-small)

  line-words : words_of (line_of row) ≡ row_words row
  unfolding line_of row_words
  line-words =
      ap (λ rest. words_of (codes "dir " ++ rest))
      (append_assoc (decimal row.server) (codes " ") (decimal row.number))
      ∙ ap (λ parts. filter (λ word. nat_lt 0 (length word)) (codes "dir" ∷ parts))
      (slice_split_at is_blank (decimal row.server) 32 (decimal row.number)
      (decimal-blanks row.server server-small) refl
      ∙ ap (λ parts. decimal row.server ∷ parts)
      (slice_split_none is_blank (decimal row.number) (decimal-blanks row.number number-small)))
      ∙ rw (decimal-some row.server server-small, decimal-some row.number number-small) refl

  row-read : row_in (row_words row) ≡ Some row
  unfolding row_words
  row-read =
      rw (
        number-decimal servers_max row.server server-small sound.0,
        number-decimal next_max row.number number-small sound.1,
      ) refl

-- the lines of all rows, and the empty one after the last newline
lines-written : (rows : List NodeRef) → AllByRecursion IsRow rows
    → lines_of (flat_map row_text rows) ≡ map line_of rows ++ [] ∷ []
unfolding line_of
lines-written [] sound = refl
lines-written (row ∷ rows) sound =
    ap lines_of (append_assoc (line_of row) (10 ∷ []) (flat_map row_text rows))
    ∙ slice_split_at (λ b. b == 10) (line_of row) 10 (flat_map row_text rows)
    (line-newlines row sound.0) refl
    ∙ ap (λ lines. line_of row ∷ lines) (lines-written rows sound.1)

-- Statements.

-- one for each row, counted
row_statements : ℕ → List NodeRef → List (ℕ × List (List ℕ))
row_statements k [] = []
row_statements k (row ∷ rows) = (k, row_words row) ∷ row_statements (k + 1) rows

statements-written : (k : ℕ) (rows : List NodeRef) → AllByRecursion IsRow rows
    → filter (λ line. not (is_skipped line.1))
    (enumerate_from k (map words_of (map line_of rows ++ [] ∷ [])))
    ≡ row_statements k rows
unfolding row_statements row_words
statements-written k [] sound = refl
statements-written k (row ∷ rows) sound =
    ap (λ words. filter (λ line. not (is_skipped line.1))
    ((k, words) ∷ enumerate_from (k + 1) (map words_of (map line_of rows ++ [] ∷ []))))
    (line-words row sound.0)
    ∙ ap (λ statements. (k, row_words row) ∷ statements) (statements-written (k + 1) rows sound.1)

-- Rows that rise.

-- each is greater than the one before, the first than this
Chained : Option NodeRef → List NodeRef → Type 0
Chained last [] = Unit {0}
Chained last (row ∷ rows) =
    (option_map_or (λ l. is_below l row) last true ≡ true) × Chained (Some row) rows

chained-behind : (row : NodeRef) (rows : List NodeRef)
    → AllPairs (λ a b. IsTrue (is_below a b)) (row ∷ rows) → Chained (Some row) rows
unfolding Chained
chained-behind row [] rising = tt
chained-behind row (next ∷ rows) rising = (
  rising 0 1 row (omega arith) (omega arith),
  chained-behind next rows
      (λ i j d lt within. rising (suc i) (suc j) d (omega arith) (omega arith)),
)

chained : (rows : List NodeRef) → AllPairs (λ a b. IsTrue (is_below a b)) rows → Chained None rows
unfolding Chained
chained [] rising = tt
chained (row ∷ rows) rising = (refl, chained-behind row rows rising)

-- the last of some rows
last_of : List NodeRef → Option NodeRef
last_of rows = slice_get rows (length rows - 1)

last-push : (rows : List NodeRef) (row : NodeRef) → last_of (rows ++ row ∷ []) ≡ Some row
unfolding last_of
last-push rows row =
    let long : length (rows ++ row ∷ []) - 1
    ≡ length rows = omega (arith, length-append rows (row ∷ [])) in
    slice_get_read (rows ++ row ∷ []) (length (rows ++ row ∷ [])) (length
    (rows ++ row ∷ []) - 1) row
    refl (omega (arith, length-append rows (row ∷ [])))
    (sym (get_or_push rows row row (length (rows ++ row ∷ []) - 1) (sym long)))

-- their statements are read, one after another
rows-read : (k : ℕ) (before rows : List NodeRef) → AllByRecursion IsRow rows
    → Chained (last_of before) rows
    → try_fold with_statement before (row_statements k rows) ≡ Ok (before ++ rows)
unfolding row_statements Chained last_of
rows-read k before [] sound chain = ap Ok (sym (append-nil before))
rows-read k before (row ∷ rows) sound chain =
    let later =
    rows-read (k + 1) (before ++ row ∷ []) rows sound.1
    (subst (λ last. Chained last rows) (sym (last-push before row)) chain.1) in
    rw (row-read row sound.0, chain.0) later ∙ ap Ok (append_assoc before (row ∷ []) rows)

pub written_reads_back : WrittenReadsBack
unfolding statements_of last_of
written_reads_back rows certificate =
    let sound = recursion_from_All IsRow rows certificate.sound in
    ap (λ lines. stated (filter (λ line. not (is_skipped line.1))
    (enumerate_from 1 (map words_of (codes "cert 1" ∷ lines))))) (lines-written rows sound)
    ∙ ap (λ statements. stated ((1, codes "cert" ∷ codes "1" ∷ []) ∷ statements))
    (statements-written 2 rows sound)
    ∙ rows-read 2 [] rows sound (chained rows certificate.rising)

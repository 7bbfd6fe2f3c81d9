-- What the lines of a text say, in the form of namespace(6).
use Rattle.std.specs.Prelude.{ℕ, not, List, map, filter}
use Rattle.std.specs.List.{enumerate_from}
use Rattle.p9_base.specs.Line.{lines_of, words_of, is_skipped}
use Rattle.p9_base.specs.declared.statement.Statement.{Statement}

-- the statements of a text: of each line that is not skipped its number, from 1 on, and its words
unfoldable pub statements_of : List ℕ → List (ℕ × List (List ℕ))
statements_of text =
    filter (λ line. not (is_skipped line.1)) (enumerate_from 1 (map words_of (lines_of text)))

-- a statement as a line's number and its words
abbrev pub statement_view : {A : Type 0} → Statement A → ℕ × List (List ℕ)
statement_view s = (s.line, map (λ word. word.now) s.words.items)

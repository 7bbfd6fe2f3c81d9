-- All lines of bad form of a namespace file.
use Rattle.std.specs.Prelude.{ℕ, List, Option}
use Rattle.std.specs.List.{filter_map}
use Rattle.std.specs.Result.{result_err}
use Rattle.p9_base.specs.Statement.{statements_of}
use Rattle.p9_nsline.specs.declared.error.BadForm.{BadForm}
use Rattle.p9_nsline.specs.declared.error.BadForm.TheVariants.{UnknownWord, WordCount, BadFlag}
use Rattle.p9_nsline.specs.declared.faults.BadLine.{BadLine}
use Rattle.p9_nsline.specs.Flags.{Word}
use Rattle.p9_nsline.specs.Line.{BadLineOf, line_of}

-- what is wrong with a line of these words, if it is of bad form
abbrev pub bad_form_in : ℕ × List Word → Option BadLineOf
bad_form_in statement = result_err (line_of statement)

-- the lines of bad form of a text, in order
abbrev pub bad_lines_in : List ℕ → List BadLineOf
bad_lines_in text = filter_map bad_form_in (statements_of text)

-- a bad line of the code, as it is seen
abbrev pub bad_line_view : BadLine → BadLineOf
bad_line_view bad = (bad.line, bad.kind)

-- the place of the word that is wrong: the first, or that of the flags
abbrev pub word_of : BadForm → ℕ
word_of UnknownWord = 0
word_of WordCount = 0
word_of BadFlag = 1

-- Laws of what is written of lines.
use Rattle.std.specs.Prelude.{◌≡◌, Bool, true, false, IfErr, List}
use Rattle.std.specs.List.{AllByRecursion}
use Rattle.p9_world.specs.declared.error.LineFault.{LineFault}
use Rattle.p9_world.specs.declared.error.LineFault.TheVariants.{BadHex, BadMode, BadName, BadUser}
use Rattle.p9_world.specs.declared.error.LineFault.TheVariants.{UnknownWord, WordCount}
use Rattle.p9_world.specs.declared.line.WorldLine.{WorldLine}
use Rattle.p9_world.specs.Change.{IsLine, line_change, world_by}
use Rattle.p9_world.specs.Read.{world_of}
use Rattle.p9_world.specs.Text.{lines_text}
use Rattle.p9_world.specs.World.{World}

-- the text of lines is read as the world that the lines ask for
abbrev pub WrittenReadsBack : Type 0
WrittenReadsBack =
    (lines : List WorldLine) → AllByRecursion IsLine lines
    → world_of (lines_text lines) ≡ world_by lines

-- a fault of a word, whatever the lines before make
abbrev pub is_word_fault : LineFault → Bool
is_word_fault UnknownWord = true
is_word_fault WordCount = true
is_word_fault BadName = true
is_word_fault BadMode = true
is_word_fault BadUser = true
is_word_fault BadHex = true
is_word_fault fault = false

-- no line has such a fault
abbrev pub WordsAreGood : Type 0
WordsAreGood =
    (line : WorldLine) → IsLine line → (w : World)
    → IfErr (line_change line w) (λ fault. is_word_fault fault ≡ false)

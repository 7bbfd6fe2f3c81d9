-- The lines of a namespace file, or the first of bad form.
use Rattle.std.specs.Prelude.{◌≡◌, ℕ, List, [], ◌∷◌, ◌++◌, Result, Ok, Err}
use Rattle.p9_base.specs.Statement.{statements_of}
use Rattle.p9_base.specs.Results.{and_then, try_fold}
use Rattle.p9_nsline.specs.declared.error.BadForm.{BadForm}
use Rattle.p9_nsline.specs.declared.error.NsError.{NsError}
use Rattle.p9_nsline.specs.declared.error.NsError.TheVariants.{BadLine, NoMemory}
use Rattle.p9_nsline.specs.declared.line.Line.{Line}
use Rattle.p9_nsline.specs.declared.operation.Operation.{Operation}
use Rattle.p9_nsline.specs.Flags.{Word}
use Rattle.p9_nsline.specs.Operation.{Form, operation_of, operation_view}

-- a line's number, from 1 on, and its operation
abbrev pub NumberedLine : Type 0
NumberedLine = ℕ × Operation Word

-- a line of bad form, and what is wrong with it
abbrev pub BadLineOf : Type 0
BadLineOf = ℕ × BadForm

-- with the line's number
abbrev pub numbered : ℕ → Form → Result NumberedLine BadLineOf
numbered number (Ok operation) = Ok (number, operation)
numbered number (Err kind) = Err (number, kind)

-- the line of a number and its words
abbrev pub line_of : ℕ × List Word → Result NumberedLine BadLineOf
line_of statement = numbered statement.0 (operation_of statement.1)

-- one line more
abbrev pub with_line : List NumberedLine → ℕ × List Word → Result (List NumberedLine) BadLineOf
with_line lines statement = and_then (line_of statement) (λ line. Ok (lines ++ line ∷ []))

-- the lines of a text, up to the first of bad form
unfoldable pub lines_in : List ℕ → Result (List NumberedLine) BadLineOf
lines_in text = try_fold with_line [] (statements_of text)

-- a line of the code, as it is seen
abbrev pub line_view : Line → NumberedLine
line_view line = (line.number, operation_view line.operation)

-- an error says that an allocation failed, or which line is the first of bad form
abbrev pub IsNsFault : {X : Type 0} → Result X BadLineOf → NsError → Type 0
IsNsFault answer NoMemory = Unit {0}
IsNsFault answer (BadLine line kind) = answer ≡ Err (line, kind)

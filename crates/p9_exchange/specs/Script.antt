-- The script that a script in words is written as.
use Rattle.std.specs.Prelude.{ℕ, List, [], ◌∷◌, ◌++◌, codes, Result, Ok, Err, if◌then◌else◌}
use Rattle.std.specs.List.{enumerate_from, flat_map}
use Rattle.std.specs.Str.{is_utf8}
use Rattle.std.specs.String.{string_bytes}
use Rattle.p9_base.specs.Line.{whole_lines}
use Rattle.hex.specs.Hex.{encode_lower}
use Rattle.p9_base.specs.Results.{and_then, try_fold}
use Rattle.p9_words.specs.Words.{number_words}
use Rattle.p9_words.specs.declared.form.Base.TheVariants.{Decimal}
use Rattle.p9_exchange.specs.Input.{head_lines, script_lines}
use Rattle.p9_exchange.specs.Line.{Line, Skipped, Open, Message, Close, line_at, turn_behind}
use Rattle.p9_exchange.specs.Refusal.{or_refused}
use Rattle.p9_exchange.specs.declared.refusal.Refusal.{Refusal}
use Rattle.p9_exchange.specs.declared.refusal.Refusal.TheVariants.{NotUtf8}
use Rattle.p9_exchange.specs.declared.script.Writer.{Writer}

-- the digits of a number
abbrev pub decimal : ℕ → List ℕ
decimal n = number_words Decimal n

-- a line and its newline
abbrev pub ended : List ℕ → List ℕ
ended line = line ++ 10 ∷ []

-- an event as `p9 play` reads it; a line that says none is as it was
abbrev pub line_text : List ℕ → Line → List ℕ
line_text line Skipped = line
line_text line (Open session) = codes "open " ++ decimal session
line_text line (Message session now frame) =
    codes "msg " ++ (decimal session ++ (codes " " ++ (decimal now ++ (codes " "
    ++ encode_lower frame))))
line_text line (Close session now) =
    codes "close " ++ (decimal session ++ (codes " " ++ decimal now))

-- what is written so far, and the tag whose turn is next
pub record Written : Type 0 where
  pub turn : ℕ
  pub text : List ℕ

-- with one line more
abbrev pub written : List ℕ → Written → Line → Written
written line w said = record {
  turn = turn_behind said w.turn;
  text = w.text ++ ended (line_text line said);
}

-- with the line of this number
abbrev pub with_line : Written → ℕ × List ℕ → Result Written Refusal
with_line w numbered =
    and_then (or_refused numbered (line_at w.turn numbered.1))
    (λ said. Ok (written numbered.1 w said))

-- what is written after a text for the lines of a script
unfoldable pub written_behind : List ℕ → List (List ℕ) → Result (List ℕ) Refusal
written_behind text lines =
    and_then (try_fold with_line (record { turn = 0; text = text }) (enumerate_from 1 lines))
    (λ w. Ok w.text)

-- what is written of the lines of an input: those up to the script's head are as they were
unfoldable pub script_of_lines : List (List ℕ) → Result (List ℕ) Refusal
script_of_lines lines = written_behind (flat_map ended (head_lines lines)) (script_lines lines)

-- what is written of an input's bytes
unfoldable pub script_of_words : List ℕ → Result (List ℕ) Refusal
script_of_words input =
    if is_utf8 input then script_of_lines (whole_lines input) else Err NotUtf8

-- what the code has written so far
abbrev pub writer_view : {A : Type 0} → Writer A → Written
writer_view writer = record { turn = writer.turn; text = string_bytes writer.text }

-- What a line of a script in words says.
use Rattle.std.specs.Prelude.{ℕ, ◌+◌, ◌-◌, ◌^◌, ◌==◌, Bool, true, nat_lt, List, [], ◌∷◌, length}
use Rattle.std.specs.Prelude.{codes, Result, Ok, if◌then◌else◌}
use Rattle.std.specs.List.{prefix_len}
use Rattle.std.specs.Result.{result_ok}
use Rattle.std.specs.Str.{bytes_eq}
use Rattle.hex.specs.Hex.{decode_of}
use Rattle.p9_words.specs.Class.{is_in, skip_blanks}
use Rattle.p9_words.specs.Omitted.{message_of_words}
use Rattle.p9_words.specs.Reading.{◌>>=◌, Reader, missing, found, number_at, first_word}
use Rattle.p9_words.specs.Reading.{behind_word}
use Rattle.p9_words.specs.declared.class.Class.TheVariants.{Digit}
use Rattle.p9_words.specs.declared.error.Expected.TheVariants as expected
use Rattle.p9_words.specs.declared.error.Fault.{Fault}
use Rattle.p9_words.specs.declared.form.Base.TheVariants.{Decimal}
use Rattle.p9_exchange.specs.declared.line.Line.{Line as CodeLine}
use Rattle.p9_exchange.specs.declared.line.Line.TheVariants as line

-- nothing, or an event: a session is opened, gets a frame at a reading of the clock, or is closed
-- at one
pub data Line : Type 0 where
  Skipped : Line
  Open : (session : ℕ) → Line
  Message : (session now : ℕ) (frame : List ℕ) → Line
  Close : (session now : ℕ) → Line

-- a line, apart from where its bytes lie
abbrev pub line_view : {A : Type 0} → CodeLine A → Line
line_view line.Skipped = Skipped
line_view (line.Open session) = Open session
line_view (line.Message session now frame) = Message session now frame.items
line_view (line.Close session now) = Close session now

-- a session's name, or a reading of the clock
abbrev pub short_at : Reader ℕ
short_at text = number_at Decimal (2 ^ 32 - 1) text

-- the line ends here
unfoldable pub end_at : List ℕ → Result (Unit {0}) Fault
end_at text =
    let here = skip_blanks text in
    if length here == 0 then Ok tt else missing expected.End here

-- the bytes that a word of hexadecimal digits writes: one or more
unfoldable pub bytes_at : Reader (List ℕ)
bytes_at text =
    let here = skip_blanks text in
    if length (first_word here) == 0 then missing expected.Pairs here
    else found (result_ok (decode_of (first_word here))) expected.Pairs here λ bytes.
    Ok (bytes, behind_word here)

-- the name of a session that begins a line
unfoldable pub session_at : Reader ℕ
session_at text =
    if prefix_len (is_in (Digit Decimal)) text == 0 then missing expected.Event text
    else short_at text

-- what follows `open`
unfoldable pub open_at : List ℕ → Result Line Fault
open_at text = short_at text >>= λ session. end_at session.1 >>= λ end. Ok (Open session.0)

-- what follows `close`
unfoldable pub close_at : List ℕ → Result Line Fault
close_at text =
    short_at text >>= λ session.
    short_at session.1 >>= λ now.
    end_at now.1 >>= λ end.
    Ok (Close session.0 now.0)

-- what follows `msg`
unfoldable pub msg_at : List ℕ → Result Line Fault
msg_at text =
    short_at text >>= λ session.
    short_at session.1 >>= λ now.
    bytes_at now.1 >>= λ frame.
    end_at frame.1 >>= λ end.
    Ok (Message session.0 now.0 frame.0)

-- a message in words, whose turn is this tag
unfoldable pub words_at : ℕ → List ℕ → Result Line Fault
words_at turn text =
    session_at text >>= λ session.
    short_at session.1 >>= λ now.
    message_of_words turn now.1 >>= λ frame.
    Ok (Message session.0 now.0 frame)

-- an empty line is passed over, and so is one that begins with '#'
abbrev pub is_skipped : List ℕ → Bool
is_skipped [] = true
is_skipped (b ∷ bytes) = b == 35

-- what a line says, where a message's turn is this tag
unfoldable pub line_at : ℕ → List ℕ → Result Line Fault
line_at turn text =
    let here = skip_blanks text in
    let word = first_word here in
    if is_skipped here then Ok Skipped
    else if bytes_eq (codes "open") word then open_at (behind_word here)
    else if bytes_eq (codes "msg") word then msg_at (behind_word here)
    else if bytes_eq (codes "close") word then close_at (behind_word here)
    else words_at turn here

-- the tag whose turn comes after a line: it counts the messages since a session was opened, and
-- is never 65535
abbrev pub turn_behind : Line → ℕ → ℕ
turn_behind Skipped turn = turn
turn_behind (Open session) turn = 0
turn_behind (Message session now frame) turn = if nat_lt turn 65534 then turn + 1 else 0
turn_behind (Close session now) turn = turn

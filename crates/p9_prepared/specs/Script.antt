-- Scripts: what happens to the exporter, line by line.
use Rattle.std.specs.Prelude.{◌≡◌, ℕ, ◌^◌, List, [], ◌∷◌, ◌++◌, Option, Some, None, Result, Ok, Err}
use Rattle.std.specs.Prelude.{codes, if◌then◌else◌}
use Rattle.std.specs.Option.{option_map}
use Rattle.std.specs.Result.{result_ok}
use Rattle.std.specs.Str.{bytes_eq}
use Rattle.hex.specs.Hex.{decode_of}
use Rattle.p9_base.specs.Decimal.{number_of}
use Rattle.p9_base.specs.Statement.{statements_of}
use Rattle.p9_base.specs.Results.{try_fold}
use Rattle.p9_step.specs.Event.{Event, Open, Message, Close}
use Rattle.p9_prepared.specs.declared.script.ScriptError.{ScriptError}
use Rattle.p9_prepared.specs.declared.script.ScriptError.TheVariants.{BadScript, NoMemory}

-- a session's name, and a reading of the clock
abbrev pub short_number : List ℕ → Option ℕ
short_number word = number_of (2 ^ 32) word

-- the frame that hexadecimal digits of either case write: one byte or more
abbrev pub frame_of_hex : List ℕ → Option (List ℕ)
frame_of_hex [] = None
frame_of_hex (digit ∷ digits) = result_ok (decode_of (digit ∷ digits))

-- a message, where all three of its parts are good
abbrev pub message_event_at : (name : Option ℕ) (frame : Option (List ℕ)) (clock : Option ℕ)
    → Option Event
message_event_at (Some name) (Some frame) (Some clock) = Some (Message name frame clock)
message_event_at name frame clock = None

abbrev pub message_event_of : (name clock hex : List ℕ) → Option Event
message_event_of name clock hex =
    message_event_at (short_number name) (frame_of_hex hex) (short_number clock)

-- a closing, where both of its parts are good
abbrev pub close_event_at : (name clock : Option ℕ) → Option Event
close_event_at (Some name) (Some clock) = Some (Close name clock)
close_event_at name clock = None

abbrev pub close_event_of : (name clock : List ℕ) → Option Event
close_event_of name clock = close_event_at (short_number name) (short_number clock)

-- the event that the words of a line say, if they say one: `open S`, `msg S NOW HEX` or
-- `close S NOW`
abbrev pub event_of : List (List ℕ) → Option Event
event_of (verb ∷ name ∷ []) =
    if bytes_eq verb (codes "open") then option_map Open (short_number name) else None
event_of (verb ∷ name ∷ clock ∷ hex ∷ []) =
    if bytes_eq verb (codes "msg") then message_event_of name clock hex else None
event_of (verb ∷ name ∷ clock ∷ []) =
    if bytes_eq verb (codes "close") then close_event_of name clock else None
event_of words = None

-- the event joins the others; a line that says none is bad
abbrev pub with_event : List Event → ℕ → Option Event → Result (List Event) ℕ
with_event events line (Some event) = Ok (events ++ event ∷ [])
with_event events line None = Err line

-- the event of a statement, which is its line and its words, joins the others
abbrev pub with_statement : List Event → ℕ × List (List ℕ) → Result (List Event) ℕ
with_statement events statement = with_event events statement.0 (event_of statement.1)

-- the events of a script, in order, or the number of its first bad line
abbrev pub script_of : List ℕ → Result (List Event) ℕ
script_of text = try_fold with_statement [] (statements_of text)

-- an error says that an allocation failed, or which line is the first bad one
abbrev pub IsScriptFault : Result (List Event) ℕ → ScriptError → Type 0
IsScriptFault script NoMemory = Unit {0}
IsScriptFault script (BadScript line) = script ≡ Err line

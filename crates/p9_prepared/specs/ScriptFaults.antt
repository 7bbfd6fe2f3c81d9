-- All bad lines of a script.
use Rattle.std.specs.Prelude.{ℕ, ◌+◌, List, [], ◌∷◌, Option, Some, None, codes, is_some}
use Rattle.std.specs.Prelude.{if◌then◌else◌}
use Rattle.std.specs.List.{filter_map}
use Rattle.std.specs.Option.{is_none}
use Rattle.std.specs.Str.{bytes_eq}
use Rattle.p9_base.specs.Statement.{statements_of}
use Rattle.p9_cert.specs.Faults.{first_bad_word}
use Rattle.p9_prepared.specs.Script.{event_of, frame_of_hex, short_number}
use Rattle.p9_prepared.specs.declared.script_faults.BadEvent.{BadEvent}

-- Which word is wrong.

-- of those behind `open`, which are `S`
abbrev pub bad_opening_word : List (List ℕ) → ℕ
bad_opening_word = first_bad_word ((λ w. is_some (short_number w)) ∷ [])

-- of those behind `close`, which are `S NOW`
abbrev pub bad_closing_word : List (List ℕ) → ℕ
bad_closing_word =
    first_bad_word ((λ w. is_some (short_number w)) ∷ (λ w. is_some (short_number w)) ∷ [])

-- of those behind `msg`, which are `S NOW HEX`
abbrev pub bad_message_word : List (List ℕ) → ℕ
bad_message_word =
    first_bad_word
    ((λ w. is_some (short_number w)) ∷ (λ w. is_some (short_number w))
    ∷ (λ w. is_some (frame_of_hex w)) ∷ [])

-- of a line that says no event, the first word included
abbrev pub bad_word : List (List ℕ) → ℕ
bad_word [] = 0
bad_word (verb ∷ words) =
    if bytes_eq verb (codes "open") then 1 + bad_opening_word words
    else if bytes_eq verb (codes "msg") then 1 + bad_message_word words
    else if bytes_eq verb (codes "close") then 1 + bad_closing_word words
    else 0

-- The bad lines.

-- a statement, if its words say no event
abbrev pub bad_event_in : ℕ × List (List ℕ) → Option BadEvent
bad_event_in statement =
    if is_none (event_of statement.1)
    then Some (record { line = statement.0; word = bad_word statement.1 })
    else None

-- the lines of a text that say no event, in order
abbrev pub bad_events_in : List ℕ → List BadEvent
bad_events_in text = filter_map bad_event_in (statements_of text)

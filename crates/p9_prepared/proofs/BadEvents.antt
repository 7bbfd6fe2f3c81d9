-- The first bad line of a script is the one for which it is refused.
use Rattle.std.proofs.Common.{◌≡◌, ℕ, List, [], ◌∷◌, Option, Some, None, refl, ◌∙◌}
use Rattle.std.specs.Prelude.{option_map, slice_get, if◌then◌else◌}
use Rattle.std.specs.List.{cons_option, filter_map}
use Rattle.std.specs.Option.{is_none}
use Rattle.std.specs.Result.{result_err}
use Rattle.p9_base.specs.Statement.{statements_of}
use Rattle.p9_step.specs.Event.{Event}
use Rattle.p9_nsline.proofs.Founds.{first-found}
use Rattle.p9_prepared.specs.Script.{event_of, script_of, with_event, with_statement}
use Rattle.p9_prepared.specs.ScriptFaults.{bad_event_in, bad_events_in, bad_word}
use Rattle.p9_prepared.specs.declared.script_faults.BadEvent.{BadEvent}

-- the number of a bad line
abbrev line_of : Option BadEvent → Option ℕ
line_of bad = option_map (λ b. b.line) bad

agree : (events : List Event) (line : ℕ) (words : List (List ℕ)) (event : Option Event) →
    result_err (with_event events line event)
    ≡ line_of (if is_none event then Some (record { line = line; word = bad_word words }) else None)
agree events line words None = refl
agree events line words (Some event) = refl

-- the first of those lines of which something is found
first-line-by : {X : Type 0} (find : X → Option BadEvent) (xs : List X) (found : Option BadEvent)
    → line_of (slice_get (filter_map find xs) 0)
    ≡ slice_get (filter_map (λ x. line_of (find x)) xs) 0 →
    line_of (slice_get (cons_option found (filter_map find xs)) 0)
    ≡ slice_get (cons_option (line_of found) (filter_map (λ x. line_of (find x)) xs)) 0
first-line-by find xs None later = later
first-line-by find xs (Some bad) later = refl

first-line : {X : Type 0} (find : X → Option BadEvent) (xs : List X) →
    line_of (slice_get (filter_map find xs) 0)
    ≡ slice_get (filter_map (λ x. line_of (find x)) xs) 0
first-line find [] = refl
first-line find (x ∷ xs) = first-line-by find xs (find x) (first-line find xs)

pub first-bad : (text : List ℕ)
    → line_of (slice_get (bad_events_in text) 0) ≡ result_err (script_of text)
first-bad text =
    first-line bad_event_in (statements_of text)
    ∙ first-found with_statement (λ statement. line_of (bad_event_in statement))
    (λ events statement. agree events statement.0 statement.1 (event_of statement.1)) []
    (statements_of text)

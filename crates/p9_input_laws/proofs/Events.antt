-- The events of a script can happen.
use Rattle.std.proofs.Common.{◌≡◌, ℕ, ◌<◌, ◌^◌, ◌%◌, ◌==◌, Bool, true, false, List, [], ◌∷◌, ◌++◌}
use Rattle.std.proofs.Common.{Option, Some, None, Result, Ok, Err, length, refl, subst}
use Rattle.std.specs.Prelude.{◌&&◌, nat_lt, codes, if◌then◌else◌}
use Rattle.std.specs.List.{AllByRecursion}
use Rattle.std.specs.Option.{option_map}
use Rattle.std.specs.Result.{result_ok}
use Rattle.std.specs.Str.{bytes_eq}
use Rattle.std.specs.Str.Parse.{digits_value}
use Rattle.std.proofs.lemmas.Bool.{and_parts, ltb-true}
use Rattle.hex.specs.Hex.{decode_pairs}
use Rattle.hex.specs.declared.error.FromHexError.{FromHexError}
use Rattle.hex.specs.declared.error.FromHexError.TheVariants.{OddLength}
use Rattle.hex.proofs.HexLemmas.{decode_pairs-ok}
use Rattle.p9_base.specs.Decimal.{is_decimal, number_of}
use Rattle.p9_base.specs.Results.{try_fold}
use Rattle.p9_base.specs.Statement.{statements_of}
use Rattle.p9_wire.specs.Frame.{IsBytes}
use Rattle.p9_step.specs.Event.{Event, Open, Message, Close, IsEvent}
use Rattle.p9_guard.proofs.Promises.{are_bytes}
use Rattle.p9_prepared.specs.Script.{close_event_at, close_event_of, event_of, frame_of_hex}
use Rattle.p9_prepared.specs.Script.{message_event_at, message_event_of, script_of, short_number}
use Rattle.p9_prepared.specs.Script.{with_event, with_statement}
use Rattle.p9_input_laws.proofs.Results.{and_then-ok, same-ok}

-- a number below a limit
number-below : (limit : ℕ) (word : List ℕ) (n : ℕ) → number_of limit word ≡ Some n → n < limit
unfolding number_of
number-below limit word n is =
    by (is_decimal word && nat_lt (digits_value 10 word) limit) refl is
  where
    by : (b : Bool) → (is_decimal word && nat_lt (digits_value 10 word) limit) ≡ b
        → (if b then Some (digits_value 10 word) else None) ≡ Some n → n < limit
    by true e same =
        let one : digits_value 10 word ≡ n = cc in
        subst (λ k. k < limit) one
        (ltb-true (digits_value 10 word) limit
        (and_parts (is_decimal word) (nat_lt (digits_value 10 word) limit) e).1)
    by false e same = absurd (cc)

-- what digits write is bytes
hex-bytes : (word frame : List ℕ) → frame_of_hex word ≡ Some frame → IsBytes frame
hex-bytes [] frame is = absurd (cc)
hex-bytes (digit ∷ digits) frame is = by (length (digit ∷ digits) % 2 == 1) is
  where
    decoded : (r : Result (List ℕ) FromHexError) → decode_pairs 0 (digit ∷ digits) ≡ r
        → result_ok r ≡ Some frame → IsBytes frame
    decoded (Ok bytes) e same =
        let one : bytes ≡ frame = cc in
        let all = decode_pairs-ok 0 (digit ∷ digits) bytes e in
        subst IsBytes one (are_bytes bytes all.2)
    decoded (Err error) e same = absurd (cc)

    by : (b : Bool)
        → result_ok (if b then Err OddLength else decode_pairs 0 (digit ∷ digits)) ≡ Some frame
        → IsBytes frame
    by true same = absurd (cc)
    by false same = decoded (decode_pairs 0 (digit ∷ digits)) refl same

-- an event of parts can happen
message-fine : (name : Option ℕ) (frame : Option (List ℕ)) (clock : Option ℕ)
    → ((bytes : List ℕ) → frame ≡ Some bytes → IsBytes bytes)
    → ((n : ℕ) → clock ≡ Some n → n < 2 ^ 32) → (event : Event)
    → message_event_at name frame clock ≡ Some event → IsEvent event
message-fine None frame clock bytes short event is = absurd (cc)
message-fine (Some name) None clock bytes short event is = absurd (cc)
message-fine (Some name) (Some frame) None bytes short event is = absurd (cc)
message-fine (Some name) (Some frame) (Some clock) bytes short event is =
    let one : Message name frame clock ≡ event = cc in
    subst IsEvent one (bytes frame refl, short clock refl)

close-fine : (name clock : Option ℕ) → ((n : ℕ) → clock ≡ Some n → n < 2 ^ 32) → (event : Event)
    → close_event_at name clock ≡ Some event → IsEvent event
close-fine None clock short event is = absurd (cc)
close-fine (Some name) None short event is = absurd (cc)
close-fine (Some name) (Some clock) short event is =
    let one : Close name clock ≡ event = cc in subst IsEvent one (short clock refl)

open-fine : (name : Option ℕ) (event : Event) → option_map Open name ≡ Some event → IsEvent event
open-fine None event is = absurd (cc)
open-fine (Some name) event is = let one : Open name ≡ event = cc in subst IsEvent one tt

-- an event that is said under a test
under : (test : Bool) (said : Option Event) (event : Event)
    → ((e : Event) → said ≡ Some e → IsEvent e) → (if test then said else None) ≡ Some event
    → IsEvent event
under true said event fine is = fine event is
under false said event fine is = absurd (cc)

-- the event of a line can happen
said-fine : (words : List (List ℕ)) (event : Event) → event_of words ≡ Some event → IsEvent event
said-fine [] event is = absurd (cc)
said-fine (verb ∷ []) event is = absurd (cc)
said-fine (verb ∷ name ∷ []) event is =
    under (bytes_eq verb (codes "open")) (option_map Open (short_number name)) event
    (open-fine (short_number name)) is
said-fine (verb ∷ name ∷ clock ∷ []) event is =
    under (bytes_eq verb (codes "close")) (close_event_of name clock) event
    (close-fine (short_number name) (short_number clock) (number-below (2 ^ 32) clock)) is
said-fine (verb ∷ name ∷ clock ∷ hex ∷ []) event is =
    under (bytes_eq verb (codes "msg")) (message_event_of name clock hex) event
    (message-fine (short_number name) (frame_of_hex hex) (short_number clock) (hex-bytes hex)
    (number-below (2 ^ 32) clock)) is
said-fine (verb ∷ name ∷ clock ∷ hex ∷ more ∷ words) event is = absurd (cc)

-- what holds of each event and of one more
one-more : (events : List Event) (event : Event) → AllByRecursion IsEvent events → IsEvent event
    → AllByRecursion IsEvent (events ++ event ∷ [])
one-more [] event all fine = (fine, tt)
one-more (e ∷ events) event all fine = (all.0, one-more events event all.1 fine)

statements-fine : (statements : List (ℕ × List (List ℕ))) (events all : List Event)
    → AllByRecursion IsEvent events → try_fold with_statement events statements ≡ Ok all
    → AllByRecursion IsEvent all
statements-fine [] events all fine is = subst (AllByRecursion IsEvent) (same-ok events all is) fine
statements-fine (statement ∷ statements) events all fine is =
    let a = and_then-ok (with_statement events statement) _ all is in
    statements-fine statements a.0 all (by (event_of statement.1) refl a.0 a.1) a.2
  where
    by : (said : Option Event) → event_of statement.1 ≡ said → (next : List Event)
        → with_event events statement.0 said ≡ Ok next → AllByRecursion IsEvent next
    by None e next made = absurd (cc)
    by (Some event) e next made =
        subst (AllByRecursion IsEvent) (same-ok (events ++ event ∷ []) next made)
        (one-more events event fine (said-fine statement.1 event e))

pub script-fine : (text : List ℕ) (events : List Event) → script_of text ≡ Ok events
    → AllByRecursion IsEvent events
script-fine text events is = statements-fine (statements_of text) [] events tt is

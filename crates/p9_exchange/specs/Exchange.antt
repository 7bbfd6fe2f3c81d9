-- The exchange of a script in words and of what was printed for it.
use Rattle.std.specs.Prelude.{ℕ, ◌+◌, ◌==◌, List, length, take, drop, Result, Ok, Err}
use Rattle.std.specs.Prelude.{if◌then◌else◌}
use Rattle.std.specs.List.{enumerate_from}
use Rattle.std.specs.Str.{is_utf8}
use Rattle.p9_base.specs.Line.{whole_lines}
use Rattle.p9_base.specs.Results.{and_then, try_fold}
use Rattle.p9_exchange.specs.Input.{lines_before, replies_head, script_lines}
use Rattle.p9_exchange.specs.Line.{line_at}
use Rattle.p9_exchange.specs.Refusal.{or_refused}
use Rattle.p9_exchange.specs.Talk.{Talk, nothing_said, with_said}
use Rattle.p9_exchange.specs.declared.refusal.Awaited.TheVariants.{End}
use Rattle.p9_exchange.specs.declared.refusal.Refusal.{Refusal}
use Rattle.p9_exchange.specs.declared.refusal.Refusal.TheVariants.{NotUtf8, NoReplies, BadReply}

-- the exchange with the line of the script of this number
abbrev pub talked : List (List ℕ) → Talk → ℕ × List ℕ → Result Talk Refusal
talked replies talk numbered =
    and_then (or_refused numbered (line_at talk.turn numbered.1))
    (λ said. with_said replies numbered.0 talk said)

-- the text, where each line of the replies is shown
abbrev pub all_printed : List (List ℕ) → Talk → Result (List ℕ) Refusal
all_printed replies talk =
    if talk.printed == length replies then Ok talk.text else Err (BadReply (talk.printed + 1) End)

-- the exchange of the lines of a script and of the replies
unfoldable pub exchange_of_lines : (replies script : List (List ℕ)) → Result (List ℕ) Refusal
exchange_of_lines replies script =
    and_then (try_fold (talked replies) nothing_said (enumerate_from 1 script)) (all_printed replies)

-- the exchange of the lines of an input: the script, and the replies after their head
unfoldable pub exchange_in : List (List ℕ) → Result (List ℕ) Refusal
exchange_in lines =
    let n = lines_before replies_head lines in
    if n == length lines then Err NoReplies
    else exchange_of_lines (drop (n + 1) lines) (script_lines (take n lines))

-- the exchange of an input's bytes
unfoldable pub exchange_of : List ℕ → Result (List ℕ) Refusal
exchange_of input = if is_utf8 input then exchange_in (whole_lines input) else Err NotUtf8

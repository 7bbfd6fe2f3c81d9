-- An exchange: what a script asks, and what was printed for it.
use Rattle.std.specs.Prelude.{ℕ, ◌+◌, ◌==◌, Bool, false, not, List, [], ◌∷◌, ◌++◌, length, filter}
use Rattle.std.specs.Prelude.{slice_get, codes, Option, Some, None, Result, Ok, Err, if◌then◌else◌}
use Rattle.std.specs.List.{list_any}
use Rattle.std.specs.Option.{option_and_then}
use Rattle.std.specs.Result.{result_ok}
use Rattle.std.specs.Str.{bytes_eq}
use Rattle.hex.specs.Hex.{decode_of}
use Rattle.p9_wire.specs.Frame.{is_frame}
use Rattle.p9_exchange.specs.Line.{Line, Skipped, Open, Message, Close, turn_behind}
use Rattle.p9_exchange.specs.Message.{message_words, frame_fault}
use Rattle.p9_exchange.specs.Script.{decimal}
use Rattle.p9_exchange.specs.declared.refusal.Awaited.TheVariants.{Reply, Skip}
use Rattle.p9_exchange.specs.declared.refusal.Refusal.{Refusal}
use Rattle.p9_exchange.specs.declared.refusal.Refusal.TheVariants.{BadReply}
use Rattle.p9_exchange.specs.declared.talk.Talk.{Talk as CodeTalk}

-- an exchange so far: the tag whose turn is next, the sessions that are open, how many lines of the
-- replies are shown, and the text
pub record Talk : Type 0 where
  pub turn : ℕ
  pub sessions : List ℕ
  pub printed : ℕ
  pub text : List ℕ

-- what the code has so far
abbrev pub talk_view : {A : Type 0} → CodeTalk A → Talk
talk_view talk = record {
  turn = talk.turn;
  sessions = talk.sessions.items;
  printed = talk.printed;
  text = talk.text.items;
}

-- nothing was asked yet
abbrev pub nothing_said : Talk
nothing_said = record { turn = 0; sessions = []; printed = 0; text = [] }

-- what goes to the exporter: the line of the script, the session, and words
abbrev pub asking : (line session : ℕ) (words : List ℕ) → List ℕ
asking line session words =
    (decimal line ++ (codes " <-" ++ (decimal session ++ codes "- "))) ++ words ++ 10 ∷ []

-- what comes from it
abbrev pub printing : (line session : ℕ) (words : List ℕ) → List ℕ
printing line session words =
    (decimal line ++ (codes " -" ++ (decimal session ++ codes "-> "))) ++ words ++ 10 ∷ []

-- the exchange with a text after it
abbrev pub followed_by : Talk → List ℕ → Talk
followed_by talk text = record talk { text = talk.text ++ text }

-- the exchange with one line of the replies more
abbrev pub with_printed : Talk → List ℕ → Talk
with_printed talk text = record talk { printed = talk.printed + 1; text = talk.text ++ text }

-- whether a session is open
abbrev pub is_open : ℕ → Talk → Bool
is_open session talk = list_any (λ name. name == session) talk.sessions

-- whether a line is there that says that an event was skipped
abbrev pub is_skip : Option (List ℕ) → Bool
is_skip None = false
is_skip (Some line) = bytes_eq (codes "skip") line

-- an event is skipped for this reason
unfoldable pub skipped : List (List ℕ) → (line session : ℕ) (reason : List ℕ) → Talk
    → Result Talk Refusal
skipped replies line session reason talk =
    if is_skip (slice_get replies talk.printed)
    then Ok (with_printed talk (printing line session (codes "skip: " ++ reason)))
    else Err (BadReply (talk.printed + 1) (Skip line))

-- the bytes that a line of the replies writes: one or more
abbrev pub reply_in : List ℕ → Option (List ℕ)
reply_in line = if length line == 0 then None else result_ok (decode_of line)

-- a message gets these bytes
abbrev pub with_reply : (line session : ℕ) → Talk → Option (List ℕ) → Result Talk Refusal
with_reply line session talk None = Err (BadReply (talk.printed + 1) (Reply line))
with_reply line session talk (Some bytes) =
    Ok (with_printed talk (printing line session (message_words bytes)))

-- a message gets the next reply
unfoldable pub replied : List (List ℕ) → (line session : ℕ) → Talk → Result Talk Refusal
replied replies line session talk =
    with_reply line session talk (option_and_then reply_in (slice_get replies talk.printed))

-- a session is opened
unfoldable pub opened : List (List ℕ) → (line session : ℕ) → Talk → Result Talk Refusal
opened replies line session talk =
    let asked = followed_by talk (asking line session (codes "open")) in
    if is_open session talk then skipped replies line session (codes "session open already") asked
    else Ok (record asked { sessions = talk.sessions ++ session ∷ [] })

-- a session is closed
unfoldable pub closed : List (List ℕ) → (line session : ℕ) → Talk → Result Talk Refusal
closed replies line session talk =
    let asked = followed_by talk (asking line session (codes "close")) in
    if is_open session talk
    then Ok (record asked { sessions = filter (λ name. not (name == session)) talk.sessions })
    else skipped replies line session (codes "no such session") asked

-- a session gets a frame
unfoldable pub sent : List (List ℕ) → (line session : ℕ) (frame : List ℕ) → Talk
    → Result Talk Refusal
sent replies line session frame talk =
    let asked = followed_by talk (asking line session (message_words frame)) in
    if not (is_frame frame) then skipped replies line session (frame_fault frame) asked
    else if is_open session talk then replied replies line session asked
    else skipped replies line session (codes "no such session") asked

-- what a line of the script says is done
abbrev pub done : List (List ℕ) → ℕ → Line → Talk → Result Talk Refusal
done replies line Skipped talk = Ok talk
done replies line (Open session) talk = opened replies line session talk
done replies line (Message session now frame) talk = sent replies line session frame talk
done replies line (Close session now) talk = closed replies line session talk

-- what a line of the script says is done, and the turn goes on
abbrev pub with_said : List (List ℕ) → ℕ → Talk → Line → Result Talk Refusal
with_said replies line talk said =
    done replies line said (record talk { turn = turn_behind said talk.turn })

-- The play text: what is printed for the events of a script.
use Rattle.std.specs.Prelude.{◌≡◌, ℕ, ◌&&◌, Bool, false, List, [], ◌∷◌, ◌++◌, is_some, codes}
use Rattle.std.specs.Prelude.{if◌then◌else◌}
use Rattle.hex.specs.Hex.{encode_lower}
use Rattle.p9_step.specs.State.{State, session_at}
use Rattle.p9_wire.specs.Frame.{is_frame}
use Rattle.p9_step.specs.Event.{Event, Open, Message, Close}
use Rattle.p9_step.specs.Step.{Stepped, step}

-- the state after an event, and what is printed for it
pub record Played : Type 0 where
  pub state : State
  pub text : List ℕ

-- an event that doesn't fit changes nothing
abbrev pub skipped : State → Played
skipped state = record { state = state; text = codes "skip\n" }

-- an opening and a closing print nothing
abbrev pub silent : Stepped → Played
silent after = record { state = after.state; text = [] }

-- a reply is printed as a line of hexadecimal digits
abbrev pub replied : Stepped → Played
replied after = record { state = after.state; text = encode_lower after.reply ++ 10 ∷ [] }

-- an event is played; refused says that an allocation failed in a request, and counts for no other
-- event
abbrev pub played : State → Event → Bool → Played
played state (Open name) refused =
    if is_some (session_at name state.sessions) then skipped state
    else silent (step state (Open name) false)
played state (Message name frame clock) refused =
    if is_frame frame && is_some (session_at name state.sessions)
    then replied (step state (Message name frame clock) refused)
    else skipped state
played state (Close name clock) refused =
    if is_some (session_at name state.sessions) then silent (step state (Close name clock) false)
    else skipped state

-- one event after another, with their marks; the texts are joined
abbrev pub play_text : State → List Event → List Bool → List ℕ
play_text state [] marks = []
play_text state (event ∷ events) [] =
    let here = played state event false in here.text ++ play_text here.state events []
play_text state (event ∷ events) (refused ∷ marks) =
    let here = played state event refused in here.text ++ play_text here.state events marks

-- an event was played, with some mark: the state after it, and what was printed after the text
-- before
pub record Plays (event : Event) (old new : State) (before after : List ℕ) : Type 0 where
  pub refused : Bool
  pub state_is : new ≡ (played old event refused).state
  pub text_is : after ≡ before ++ (played old event refused).text

-- events were played, with some marks: what was printed after the text before
pub record PlaysAll (events : List Event) (old : State) (before after : List ℕ) : Type 0 where
  pub marks : List Bool
  pub text_is : after ≡ before ++ play_text old events marks

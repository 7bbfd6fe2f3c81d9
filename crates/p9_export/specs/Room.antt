-- How much room a reply needs.
use Rattle.std.specs.Prelude.{ℕ, Option}
use Rattle.std.specs.Option.{option_map}
use Rattle.p9_step.specs.Laws.{reply_max}
use Rattle.p9_step.specs.State.{State, session_at}

-- the most bytes that a reply to the session of this name has, where it is open
abbrev pub reply_room : ℕ → State → Option ℕ
reply_room name state = option_map reply_max (session_at name state.sessions)

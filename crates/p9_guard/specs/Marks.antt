-- Where a mark of a failed allocation counts.
use Rattle.std.specs.Prelude.{◌&&◌, ◌||◌, Bool, true, false, not, List, [], ◌∷◌, Result}
use Rattle.std.specs.Prelude.{Ok, Err, is_some}
use Rattle.std.specs.Option.{option_map_or}
use Rattle.p9_wire.specs.Frame.{is_frame}
use Rattle.p9_step.specs.State.{State, session_at}
use Rattle.p9_step.specs.Event.{Event, Open, Message, Close}
use Rattle.p9_step.specs.Step.{runs_out}
use Rattle.p9_step.specs.Step.{Marked, step}
use Rattle.p9_export.specs.declared.export.OpenError.{OpenError}
use Rattle.p9_export.specs.declared.export.OpenError.TheVariants.{Live, NoMemory}

-- an event has a reply: it is a whole frame of a session that is open
abbrev pub is_answered : State → Event → Bool
is_answered state (Open name) = false
is_answered state (Message name frame clock) =
    is_frame frame && is_some (session_at name state.sessions)
is_answered state (Close name clock) = false

-- memory may be refused to an opening that fits, and to a request that may be answered so
abbrev pub may_be_refused : State → Event → Bool
may_be_refused state (Open name) = not (is_some (session_at name state.sessions))
may_be_refused state (Message name frame clock) =
    is_frame frame
    && option_map_or (λ session. runs_out state session frame clock true)
    (session_at name state.sessions) false
may_be_refused state (Close name clock) = false

-- each mark is of an event that memory may be refused to, at the state where it happens
abbrev pub are_permitted : State → List Marked → Bool
are_permitted state [] = true
are_permitted state (event ∷ events) =
    (not event.1 || may_be_refused state event.0)
    && are_permitted (step state event.0 event.1).state events

-- the mark of an opening, read off its result
abbrev pub is_refused : {X : Type 0} → Result X OpenError → Bool
is_refused (Ok opened) = false
is_refused (Err Live) = false
is_refused (Err NoMemory) = true

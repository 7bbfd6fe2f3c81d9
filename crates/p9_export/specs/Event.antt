-- Events, as they are seen.
use Rattle.p9_step.specs.Event.{Event, Open, Message, Close}
use Rattle.p9_export.specs.declared.event.Event.{Event as EventOf}
use Rattle.p9_export.specs.declared.event.Event.TheVariants.{Open as OpenOf, Message as MessageOf}
use Rattle.p9_export.specs.declared.event.Event.TheVariants.{Close as CloseOf}

-- an event is the step's, with its frame's bytes
abbrev pub event_view : {A : Type 0} → EventOf A → Event
event_view (OpenOf name) = Open name
event_view (MessageOf name frame clock) = Message name frame.items clock
event_view (CloseOf name clock) = Close name clock

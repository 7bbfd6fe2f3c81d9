use Rattle.std.proofs.Common.{arith}
use Rattle.p9_export.specs.Event.{event_view}
use Rattle.p9_play.proofs.Plays.{plays-more, plays-end}
use Rattle.p9_play.proofs.play.play_events.Goals as goal

pub loop-event-preserved : goal.loop-event-preserved
loop-event-preserved g c =
    plays-more _ _ _ _ _ event_view c.args.events.now c.loop-event.event-index c.event-item.result
    _ _ _ c.loop-event-test.true c.event-item.is c.loop-event.invariant
    c.in_ok-play_event.ensures

pub returns : goal.returns
returns g c =
    plays-end _ _ _ _ _ event_view c.args.events.now c.loop-event.event-index (omega arith)
    c.loop-event.invariant

use Rattle.std.proofs.Common.{drop, map}
use Rattle.p9_export.specs.Event.{event_view}
use Rattle.p9_play.proofs.Plays.{PlaysSoFar}
use Rattle.p9_play.proofs.play.play_events.Given as goal

-- the events so far were played, with some marks
abbrev pub invariant-loop-event : goal.invariant-loop-event
invariant-loop-event g l =
    PlaysSoFar (map event_view l.fn.events) (g.M.Machine.state l.fn.machine) l.fn.out.items
    (drop l.event-index (map event_view l.fn.events)) (g.M.Machine.state l.machine) l.out.items

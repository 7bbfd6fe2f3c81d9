use Rattle.std.proofs.Common.{◌≡◌, map, take}
use Rattle.p9_export.specs.Event.{event_view}
use Rattle.p9_guard.proofs.Progress.{HasDone}
use Rattle.p9_guard.proofs.guard.Guard.run.Given as goal

-- the events so far are done
abbrev pub invariant-loop-done : goal.invariant-loop-done
invariant-loop-done g l =
    (l.self.hidden ≡ l.fn.self.hidden) × (l.self.start ≡ l.fn.self.start)
    × HasDone l.fn.self.state l.fn.bytes.items (take l.done (map event_view l.fn.events))
    l.self.state l.used l.bytes.items

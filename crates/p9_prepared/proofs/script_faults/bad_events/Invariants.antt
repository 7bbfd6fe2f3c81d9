use Rattle.std.proofs.Common.{◌≡◌, ◌++◌, drop}
use Rattle.std.specs.List.{filter_map}
use Rattle.p9_base.specs.Statement.{statements_of}
use Rattle.p9_prepared.specs.ScriptFaults.{bad_event_in, bad_events_in}
use Rattle.p9_prepared.proofs.script_faults.bad_events.Given as goal

-- the lines found so far and those that are left to find
abbrev pub invariant-loop-statement : goal.invariant-loop-statement
invariant-loop-statement g l =
    l.found.items ++ filter_map bad_event_in (drop l.statement-index (statements_of l.text))
    ≡ bad_events_in l.text

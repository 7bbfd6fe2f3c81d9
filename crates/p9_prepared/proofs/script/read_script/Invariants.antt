use Rattle.std.proofs.Common.{◌≡◌, drop, map}
use Rattle.p9_base.specs.Statement.{statements_of}
use Rattle.p9_base.specs.Results.{try_fold}
use Rattle.p9_export.specs.Event.{event_view}
use Rattle.p9_prepared.specs.Script.{script_of, with_statement}
use Rattle.p9_prepared.proofs.script.read_script.Given as goal

-- the events so far and those of the statements that are left are those of the text
abbrev pub invariant-loop-statement : goal.invariant-loop-statement
invariant-loop-statement g l =
    try_fold with_statement (map event_view l.events.items)
    (drop l.statement-index (statements_of l.fn.text)) ≡ script_of l.fn.text

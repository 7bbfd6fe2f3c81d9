use Rattle.std.proofs.Common.{◌≡◌, ◌++◌, drop, map}
use Rattle.p9_base.specs.Statement.{statement_view}
use Rattle.p9_policy.specs.Faults.{bad_rows_in, no_rows}
use Rattle.p9_policy.proofs.faults.push_bad_rows.Given as goal

-- what was found, and the bad rows that are left to find
abbrev pub invariant-loop-statement : goal.invariant-loop-statement
invariant-loop-statement g l =
    l.found.items
    ++ bad_rows_in l.rows (drop l.statement-index (map statement_view l.statements))
    ≡ l.initial.found.items ++ bad_rows_in no_rows (map statement_view l.statements)

use Rattle.std.proofs.Common.{◌≡◌, [], drop, map}
use Rattle.p9_base.specs.Statement.{statement_view}
use Rattle.p9_base.specs.Results.{try_fold}
use Rattle.p9_policy.specs.Text.{with_statement}
use Rattle.p9_policy.proofs.read.read_rows.Given as goal

-- the rows so far and those of the lines that are left are those of all lines
abbrev pub invariant-loop-statement : goal.invariant-loop-statement
invariant-loop-statement g l =
    try_fold with_statement l.certificate
    (drop l.statement-index (map statement_view l.statements))
    ≡ try_fold with_statement [] (map statement_view l.statements)

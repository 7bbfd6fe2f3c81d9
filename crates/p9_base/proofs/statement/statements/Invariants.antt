use Rattle.std.proofs.Common.{◌≡◌, map}
use Rattle.p9_base.specs.Line.{lines_of}
use Rattle.p9_base.specs.Statement.{statement_view}
use Rattle.p9_base.proofs.StatementLemmas.{statements_in}
use Rattle.p9_base.proofs.statement.statements.Given as goal

abbrev pub invariant-loop-i : goal.invariant-loop-i
invariant-loop-i g l = map statement_view l.statements.items ≡ statements_in l.i (lines_of l.text)

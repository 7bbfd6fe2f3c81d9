use Rattle.std.proofs.Common.{drop}
use Rattle.p9_base.specs.Statement.{statements_of}
use Rattle.p9_base.specs.Results.{try_fold}
use Rattle.p9_world.specs.Read.{read_statement}
use Rattle.p9_world.specs.World.{empty_world}
use Rattle.p9_world.proofs.BadLines.{AreFound}
use Rattle.p9_world.proofs.faults.bad_lines_from.Given as goal

-- as long as no line is bad, the statements that are left make of the world what all of them make of
-- the empty one; else all of them come to the first bad line
abbrev pub invariant-loop-statement : goal.invariant-loop-statement
invariant-loop-statement g l =
    AreFound l.found.items (try_fold read_statement l.world (drop l.statement-index (statements_of l.fn.text)))
    (try_fold read_statement empty_world (statements_of l.fn.text))

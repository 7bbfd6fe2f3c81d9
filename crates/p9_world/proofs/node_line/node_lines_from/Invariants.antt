use Rattle.std.proofs.Common.{◌≡◌, [], drop, fold}
use Rattle.p9_base.specs.Statement.{statements_of}
use Rattle.p9_world.specs.NodeLine.{with_node_line}
use Rattle.p9_world.specs.World.{empty_world}
use Rattle.p9_world.proofs.node_line.node_lines_from.Given as goal

-- the statements that are left add to the lines so far what all of them add to none
abbrev pub invariant-loop-statement : goal.invariant-loop-statement
invariant-loop-statement g l =
    fold with_node_line (record { world = l.world; lines = l.lines.items })
    (drop l.statement-index (statements_of l.fn.text))
    ≡ fold with_node_line (record { world = empty_world; lines = [] }) (statements_of l.fn.text)

use Rattle.std.proofs.Common.{map, ap, ◌∙◌}
use Rattle.p9_base.specs.Statement.{statement_view, statements_of}
use Rattle.p9_world.specs.NodeLine.{with_node_line}
use Rattle.p9_world.proofs.NodeLines.{fold-next, node_lines-all}
use Rattle.p9_world.proofs.node_line.node_lines_from.Goals as goal

pub loop-statement-preserved : goal.loop-statement-preserved
loop-statement-preserved g c =
    let same =
    ap (map statement_view) c.deref-statement-items.ensures.value
    ∙ c.in_ok-statements.ensures in
    fold-next with_node_line statement_view c.deref-statement-items.result.now
    (statements_of c.args.text.now) same
    (record { world = c.loop-statement.world; lines = c.loop-statement.lines.items })
    c.loop-statement.statement-index _ c.statement-item.result c.statement-item.result
    c.loop-statement-test.true c.statement-item.is c.in_ok-read_noted.ensures
    ∙ c.loop-statement.invariant

pub returns : goal.returns
returns g c =
    let same =
    ap (map statement_view) c.deref-statement-items.ensures.value
    ∙ c.in_ok-statements.ensures in
    node_lines-all statement_view c.deref-statement-items.result.now c.args.text.now same
    (record { world = c.loop-statement.world; lines = c.loop-statement.lines.items })
    c.loop-statement.statement-index c.loop-statement-test.false c.loop-statement.invariant

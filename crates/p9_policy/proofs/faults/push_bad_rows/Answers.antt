use Rattle.std.proofs.Common.{map, ap, ◌∙◌}
use Rattle.p9_base.specs.Statement.{statement_view}
use Rattle.p9_policy.specs.Text.{row_in}
use Rattle.p9_policy.proofs.BadLines.{bad_rows-more}
use Rattle.p9_policy.proofs.faults.push_bad_rows.Goals as goal

pub loop-statement-preserved : goal.loop-statement-preserved
loop-statement-preserved g c =
    bad_rows-more statement_view c.args.statements.now c.loop-statement.statement-index
    c.statement-item.result c.statement-item.result c.loop-statement.rows
    c.loop-statement-test.true c.statement-item.is c.loop-statement.found.items
    c.push_bad_row.new.found.items _ c.row_in-row.result c.with-rows.result
    (c.row_in-row.ensures.row
    ∙ ap (λ words. row_in (map (λ word. word.now) words)) c.as_slice.ensures.value)
    c.in_ok-push_bad_row.ensures c.with-rows.ensures c.loop-statement.invariant

use Rattle.std.proofs.Common.{ap₂, ◌∙◌}
use Rattle.p9_table.proofs.Tables.{IsTable-with_row, joined-some}
use Rattle.p9_table.specs.Table.{standing, with_row}
use Rattle.p9_table.proofs.table.MountTable.bind.Goals as goal

pub invariant_of-self-2 : goal.invariant_of-self-2
invariant_of-self-2 g c =
    let some =
    joined-some c.args.order c.args.nodes.now c.args.create
    (standing c.args.key c.args.self.now) c.requires in
    IsTable-with_row _ _ _ _ c.in_ok-insert.ensures.entries (rw c.in_ok-row.ensures some)
    c.in_ok-insert.ensures.unique c.self.invariant

pub returns-clause-ok : goal.returns-clause-ok
returns-clause-ok g c =
    c.in_ok-insert.ensures.entries
    ∙ ap₂ (with_row c.args.key) c.in_ok-row.ensures c.self.view_is

use Rattle.p9_table.proofs.Tables.{IsTable-without_row}
use Rattle.p9_table.proofs.table.MountTable.remove_row.Goals as goal

pub invariant_of-self : goal.invariant_of-self
invariant_of-self g c =
    IsTable-without_row _ _ _ c.shift_remove.ensures.entries c.shift_remove.ensures.unique
    c.self.invariant

use Rattle.std.proofs.Common.{sym, subst, ◌∙◌}
use Rattle.p9_table.specs.Table.{IsTable}
use Rattle.p9_table.proofs.Tables.{entries-same}
use Rattle.p9_table.proofs.table.MountTable.copy.Goals as goal

pub invariant_of-result : goal.invariant_of-result
invariant_of-result g c =
    subst IsTable (sym (entries-same c.self.inside.rows.entries c.in_ok-clone.field-0.entries
    c.in_ok-clone.ensures.cases)) c.self.invariant

pub returns : goal.returns
returns g c =
    entries-same c.self.inside.rows.entries c.in_ok-clone.field-0.entries
    c.in_ok-clone.ensures.cases
    ∙ c.self.view_is

use Rattle.std.proofs.Common.{Some, ap, ◌∙◌}
use Rattle.std.specs.Prelude.{slice_get}
use Rattle.std.specs.Option.{option_copied, option_map}
use Rattle.p9_table.specs.Table.{MountRow}
use Rattle.p9_table.proofs.table.MountTable.members_of_row.Goals as goal

pub returns : goal.returns
returns g c =
    ap Some c.as_slice.ensures
    ∙ ap (option_map (λ (row : MountRow). row.1))
    (c.in_ok-row.ensures.entry ∙ ap (λ rows. slice_get rows c.args.position) c.self.view_is)

pub returns-in_err-row : goal.returns-in_err-row
returns-in_err-row g c =
    ap option_copied c.from_residual.ensures
    ∙ ap (option_map (λ (row : MountRow). row.1))
    (c.in_err-row.ensures.entry ∙ ap (λ rows. slice_get rows c.args.position) c.self.view_is)

use Rattle.std.proofs.Common.{Some, ap, ◌∙◌}
use Rattle.std.specs.Prelude.{slice_get}
use Rattle.p9_table.proofs.table.MountTable.row.Goals as goal

pub returns : goal.returns
returns g c =
    ap (λ members. Some (c.in_ok-key.key.now, members)) (c.new.ensures ∙ c.as_slice.ensures)
    ∙ c.in_ok-key.ensures.entry ∙ ap (λ rows. slice_get rows c.args.position) c.self.view_is

pub returns-in_err-key : goal.returns-in_err-key
returns-in_err-key g c =
    c.from_residual.ensures ∙ c.in_err-key.ensures.entry
    ∙ ap (λ rows. slice_get rows c.args.position) c.self.view_is

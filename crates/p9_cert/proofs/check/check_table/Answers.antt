use Rattle.std.proofs.Common.{◌∙◌, ◌<◌, sym, ap, subst}
use Rattle.std.proofs.lemmas.Result.{err_from_is_err_and}
use Rattle.p9_cert.specs.Gap.{mount_gap, table_gap}
use Rattle.p9_cert.proofs.Firsts.{first-at-found, first-at-next, none-past}
use Rattle.p9_cert.proofs.check.check_table.Goals as goal
use Rattle.p9_cert.proofs.check.check_table.Goals.{in-Some+in_ok-check_mount, in_default}

pub returns-in_err-check_mount : goal.returns-in_err-check_mount
returns-in_err-check_mount g c =
    let forest = c.args.forest.now in
    let p = err_from_is_err_and c.from_residual.result c.from_residual.ensures.1 in
    rw (p.1, p.2)
    (first-at-found (mount_gap forest) c.args.table.now c.loop-position.position
    (c.in-Some.key, c.in-Some.members) c.in_err-check_mount.field-0.0
    (table_gap forest c.args.table.now)
    (sym c.row.ensures ∙ c.in-Some.is)
    (ap (λ ms. mount_gap forest (c.in-Some.key, ms)) (sym c.as_slice.ensures)
    ∙ sym c.in_err-check_mount.ensures)
    c.loop-position.invariant)

pub loop-position-preserved : goal.loop-position-preserved
loop-position-preserved g c =
    let forest = c.args.forest.now in
    elim c.match-row.branch [
      | in-Some+in_ok-check_mount w ↦
          first-at-next (mount_gap forest) c.args.table.now c.loop-position.position
          (w.in-Some.key, w.in-Some.members)
          (table_gap forest c.args.table.now)
          (sym c.row.ensures ∙ w.in-Some.is)
          (ap (λ ms. mount_gap forest (w.in-Some.key, ms)) (sym w.as_slice.ensures)
          ∙ sym w.in_ok-check_mount.ensures)
          c.loop-position.invariant
      | in_default w ↦
          absurd (none-past c.args.table.now c.loop-position.position
          (sym c.row.ensures ∙ w.in_default.is)
          (subst (λ n. c.loop-position.position < n) c.len-position-end.ensures
          c.loop-position-test.true))
    ]

use Rattle.std.proofs.Common.{◌≡◌, drop}
use Rattle.p9_cert.specs.Gap.{table_gap}
use Rattle.p9_cert.proofs.check.check_table.Given as goal

-- the rows that are left have the first gap
abbrev pub invariant-loop-position : goal.invariant-loop-position
invariant-loop-position g l =
    let forest = l.forest in
    table_gap forest (drop l.position l.table) ≡ table_gap forest l.table

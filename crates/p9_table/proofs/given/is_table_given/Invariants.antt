use Rattle.std.proofs.Common.{◌≡◌, drop}
use Rattle.p9_table.specs.Given.{is_table_given}
use Rattle.p9_table.proofs.given.is_table_given.Given as goal

-- the rows that are left give the answer
abbrev pub invariant-loop-position : goal.invariant-loop-position
invariant-loop-position g l =
    let forest = l.forest in
    is_table_given forest (drop l.position l.table) ≡ is_table_given forest l.table

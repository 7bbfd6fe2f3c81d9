use Rattle.std.proofs.Common.{◌≡◌, drop}
use Rattle.p9_cert.specs.Gap.{first_of}
use Rattle.p9_cert.specs.Policy.{policy_of}
use Rattle.p9_fixed.specs.Change.{children_change}
use Rattle.p9_fixed.proofs.check.rows_change.Given as goal

-- the rows that are left have the first change
abbrev pub invariant-loop-row : goal.invariant-loop-row
invariant-loop-row g l =
    let change = children_change (policy_of l.world) l.world.forest l.table in
    first_of change (drop l.row-index l.rows) ≡ first_of change l.rows

use Rattle.std.proofs.Common.{◌≡◌, ◌+◌, drop}
use Rattle.p9_policy.specs.Policy.{policy_of}
use Rattle.p9_cert.specs.Gap.{children_gap, first_counted}
use Rattle.p9_cert.proofs.check.check_children.Given as goal

-- the rows that are left have the first gap
abbrev pub invariant-loop-i : goal.invariant-loop-i
invariant-loop-i g l =
    let gap = children_gap (policy_of l.world) l.world.forest l.table l.rows in
    first_counted gap (l.i + 1) (drop l.i l.rows) ≡ first_counted gap 1 l.rows

use Rattle.std.proofs.Common.{◌≡◌, ◌+◌, drop, take}
use Rattle.p9_policy.specs.Barred.{AreNotBarred}
use Rattle.p9_policy.specs.Policy.{policy_of}
use Rattle.p9_cert.specs.Gap.{first_counted, row_gap}
use Rattle.p9_cert.proofs.check.check_rows.Given as goal

-- the rows that are left have the first gap, and those before are shown
abbrev pub invariant-loop-i : goal.invariant-loop-i
invariant-loop-i g l =
    (first_counted (row_gap (policy_of l.world) l.world.forest) (l.i + 1) (drop l.i l.rows)
    ≡ first_counted (row_gap (policy_of l.world) l.world.forest) 1 l.rows)
    × AreNotBarred l.world.hidden l.world.forest (take l.i l.rows)

use Rattle.std.proofs.Common.{◌≡◌, ◌-◌}
use Rattle.p9_tree.specs.Forest.{next_of}
use Rattle.p9_policy.specs.Policy.{policy_of}
use Rattle.p9_cert.specs.Gap.{child_gap, children_gap, first_of}
use Rattle.p9_cert.proofs.Children.{left_of, passed}
use Rattle.p9_cert.proofs.check.check_children_of.Given as goal

-- the children that are left have the first gap
abbrev pub invariant-loop-child : goal.invariant-loop-child
invariant-loop-child g l =
    first_of (child_gap (policy_of l.world) l.world.forest l.table l.rows l.number l.row)
    (left_of l.row l.floor l.world.forest)
    ≡ children_gap (policy_of l.world) l.world.forest l.table l.rows l.number l.row

abbrev pub decreases-loop-child : goal.decreases-loop-child
decreases-loop-child g l = next_of l.row.server l.world.forest - passed l.floor

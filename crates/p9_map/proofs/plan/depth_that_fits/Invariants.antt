use Rattle.std.proofs.Common.{◌≡◌, ◌≤◌, ◌⊎◌, count_by}
use Rattle.p9_map.specs.Plan.{boxes_max, is_within}
use Rattle.p9_map.proofs.plan.depth_that_fits.Given as goal

-- it is the least depth, or fits
abbrev pub invariant-loop-depth : goal.invariant-loop-depth
invariant-loop-depth l =
    (l.depth ≡ 1) ⊎ (count_by (is_within l.depth) l.ranked ≤ boxes_max)

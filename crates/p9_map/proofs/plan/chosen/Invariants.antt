use Rattle.std.proofs.Common.{◌≡◌, ◌-◌, ◌++◌, drop}
use Rattle.p9_map.specs.Plan.{boxes_max, chosen_at, kept_count}
use Rattle.p9_map.proofs.plan.chosen.Given as goal

-- those that are chosen so far, and of the rest
abbrev pub invariant-loop-node : goal.invariant-loop-node
invariant-loop-node g l =
    l.spots.items ++ chosen_at l.depth l.left (drop l.node-index l.ranked)
    ≡ chosen_at l.depth (boxes_max - kept_count l.ranked) l.ranked

use Rattle.std.proofs.Common.{◌-◌, length}
use Rattle.p9_map.proofs.Ranks.{AreRanked}
use Rattle.p9_map.proofs.plan.ranked_nodes.Given as goal

-- the last nodes are ranked
abbrev pub invariant-loop-done : goal.invariant-loop-done
invariant-loop-done g l =
    AreRanked l.forest l.hidden.keys l.marked.keys l.spots (length l.spots - l.done) l.ranked.items
    l.noted_depth l.kept_depth

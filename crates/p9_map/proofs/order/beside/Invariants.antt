use Rattle.std.proofs.Common.{◌≡◌, ◌-◌}
use Rattle.p9_map.specs.Order.{next_beside}
use Rattle.p9_map.proofs.order.beside.Given as goal

-- what is looked for is what is beside the node reached
abbrev pub invariant-loop : goal.invariant-loop
invariant-loop g l =
    next_beside l.forest (l.fn.spot.node.number - l.counter) l.here
    ≡ next_beside l.forest l.fn.spot.node.number l.fn.spot

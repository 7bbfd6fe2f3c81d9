use Rattle.p9_map.specs.Order.{Leads, root_spot}
use Rattle.p9_map.proofs.order.all_spots.Given as goal

-- the nodes so far, and what comes after them
abbrev pub invariant-loop : goal.invariant-loop
invariant-loop g l = Leads l.forest (root_spot l.forest 0) l.spots.items l.next

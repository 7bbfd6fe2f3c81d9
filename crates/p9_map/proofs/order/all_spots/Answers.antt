use Rattle.p9_map.specs.Order.{root_spot}
use Rattle.p9_map.proofs.Follows.{leads-end, leads-more}
use Rattle.p9_map.proofs.order.all_spots.Goals as goal

pub loop-preserved : goal.loop-preserved
loop-preserved g c =
    leads-more c.args.forest.now (root_spot c.args.forest.now 0) c.loop.next c.after-next.result
    c.loop.spots.items c.push.new.self.items c.in-Some.spot c.in-Some.is c.in_ok-push.ensures.items
    c.after-next.ensures c.loop.invariant

pub returns-in_default : goal.returns-in_default
returns-in_default g c =
    leads-end c.args.forest.now (root_spot c.args.forest.now 0) c.loop.next c.loop.spots.items
    c.in_default.is c.loop.invariant

use Rattle.std.proofs.Common.{refl, arith}
use Rattle.p9_map.proofs.Laid.{laid-more}
use Rattle.p9_map.proofs.boxes.place_all.Goals as goal

pub loop-item-preserved : goal.loop-item-preserved
loop-item-preserved g c = (
  omega arith,
  laid-more c.args.items.now c.loop-item.item-index c.loop-item.boxes.items c.push.new.self.items
      c.loop-item.pen c.place.new.self _ _ c.place.result c.loop-item-test.true refl
      c.place.ensures.node c.place.ensures.apart c.place.ensures.kept c.place.ensures.own
      c.in_ok-push.ensures.items c.loop-item.invariant.1,
)

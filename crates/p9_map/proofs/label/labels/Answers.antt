use Rattle.std.proofs.Common.{refl}
use Rattle.std.specs.Option.{option_copied}
use Rattle.p9_map.specs.Walk.{walk_in}
use Rattle.p9_map.proofs.Labelled.{labelled-more}
use Rattle.p9_map.proofs.label.labels.Goals as goal

pub loop-spot-preserved : goal.loop-spot-preserved
loop-spot-preserved g c =
    labelled-more c.args.scene.now.world.now (walk_in (option_copied c.args.scene.now.breach))
    c.args.spots.now c.loop-spot.spot-index c.loop-spot.labels.items c.push.new.self.items _ _ _
    c.loop-spot-test.true refl c.in_ok-label_of.ensures c.in_ok-push.ensures.items
    c.loop-spot.invariant

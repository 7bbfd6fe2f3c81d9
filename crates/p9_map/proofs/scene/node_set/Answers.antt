use Rattle.std.proofs.Common.{refl}
use Rattle.p9_map.proofs.Sets.{joined-node, set-more}
use Rattle.p9_map.proofs.scene.node_set.Goals as goal

pub loop-node-preserved : goal.loop-node-preserved
loop-node-preserved g c =
    set-more c.args.nodes.now c.loop-node.set.keys c.insert.new.self.keys c.loop-node.node-index _ _
    c.loop-node-test.true refl
    (joined-node c.loop-node.set.keys c.insert.new.self.keys _ c.in_ok-insert.ensures.updates.0)
    c.loop-node.invariant

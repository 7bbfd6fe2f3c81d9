use Rattle.std.proofs.Common.{refl}
use Rattle.p9_base.specs.NodeRef.{same_node}
use Rattle.p9_map.proofs.Sets.{joined-all, joined-node, joined-one}
use Rattle.p9_map.proofs.scene.mark_hops.Goals as goal

pub loop-hop-preserved : goal.loop-hop-preserved
loop-hop-preserved g c =
    joined-one (λ at h. same_node h.to at) c.args.hops.now c.loop-hop.hop-index
    c.args.marked.now.keys c.loop-hop.marked.keys c.insert.new.self.keys _ _ c.loop-hop-test.true refl
    (joined-node c.loop-hop.marked.keys c.insert.new.self.keys _ c.in_ok-insert.ensures.updates.0)
    c.loop-hop.invariant

pub returns : goal.returns
returns g c =
    joined-all (λ at h. same_node h.to at) c.args.hops.now c.loop-hop.hop-index
    c.args.marked.now.keys c.loop-hop.marked.keys c.loop-hop.marked.keys c.loop-hop-test.false
    c.loop-hop.invariant

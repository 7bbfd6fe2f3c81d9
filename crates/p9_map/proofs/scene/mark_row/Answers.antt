use Rattle.std.proofs.Common.{refl}
use Rattle.std.specs.List.{list_any}
use Rattle.p9_base.specs.NodeRef.{same_node}
use Rattle.p9_map.proofs.Sets.{joined-all, joined-node, joined-one, joined-twice}
use Rattle.p9_map.proofs.scene.mark_row.Goals as goal

pub loop-member-preserved : goal.loop-member-preserved
loop-member-preserved g c =
    joined-one (λ at m. same_node m.node at) c.args.members.now c.loop-member.member-index
    c.insert.new.self.keys c.loop-member.marked.keys c.insert-in-loop-member.new.self.keys _ _
    c.loop-member-test.true refl
    (joined-node c.loop-member.marked.keys c.insert-in-loop-member.new.self.keys _
    c.in_ok-insert-2.ensures.updates.0)
    c.loop-member.invariant

pub returns : goal.returns
returns g c =
    joined-twice c.args.marked.now.keys c.insert.new.self.keys c.loop-member.marked.keys
    (same_node c.args.key) (λ at. list_any (λ m. same_node m.node at) c.args.members.now)
    (joined-node c.args.marked.now.keys c.insert.new.self.keys _ c.in_ok-insert.ensures.updates.0)
    (joined-all (λ at m. same_node m.node at) c.args.members.now c.loop-member.member-index
    c.insert.new.self.keys c.loop-member.marked.keys c.loop-member.marked.keys
    c.loop-member-test.false c.loop-member.invariant)

use Rattle.std.proofs.Common.{take}
use Rattle.std.specs.List.{list_any}
use Rattle.p9_base.specs.NodeRef.{same_node}
use Rattle.p9_map.specs.Scene.{AreJoinedBy}
use Rattle.p9_map.proofs.scene.mark_row.Given as goal

-- the members so far joined the set
abbrev pub invariant-loop-member : goal.invariant-loop-member
invariant-loop-member g l =
    AreJoinedBy l.initial.marked.keys l.marked.keys
    (λ at. list_any (λ m. same_node m.node at) (take l.member-index l.members))

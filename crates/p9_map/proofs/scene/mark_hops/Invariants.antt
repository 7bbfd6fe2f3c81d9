use Rattle.std.proofs.Common.{take}
use Rattle.p9_map.specs.Scene.{AreJoinedBy, is_come_to}
use Rattle.p9_map.proofs.scene.mark_hops.Given as goal

-- what the hops so far come to joined the set
abbrev pub invariant-loop-hop : goal.invariant-loop-hop
invariant-loop-hop g l =
    AreJoinedBy l.initial.marked.keys l.marked.keys (is_come_to (take l.hop-index l.hops))

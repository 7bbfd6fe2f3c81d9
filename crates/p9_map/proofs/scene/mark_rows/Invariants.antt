use Rattle.std.proofs.Common.{take}
use Rattle.p9_map.specs.Scene.{AreJoinedBy, is_in_table}
use Rattle.p9_map.proofs.scene.mark_rows.Given as goal

-- the nodes of the rows so far joined the set
abbrev pub invariant-loop-row : goal.invariant-loop-row
invariant-loop-row g l =
    AreJoinedBy l.initial.marked.keys l.marked.keys (is_in_table (take l.row l.table))

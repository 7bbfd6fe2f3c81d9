use Rattle.std.proofs.Common.{take}
use Rattle.p9_cert.specs.Rows.{is_row}
use Rattle.p9_map.specs.Scene.{AreThose}
use Rattle.p9_map.proofs.scene.node_set.Given as goal

-- the set has the nodes so far
abbrev pub invariant-loop-node : goal.invariant-loop-node
invariant-loop-node g l = AreThose l.set.keys (is_row (take l.node-index l.nodes))

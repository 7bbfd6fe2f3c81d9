use Rattle.std.proofs.Common.{take}
use Rattle.p9_map.proofs.Joined.{AreJoined}
use Rattle.p9_map.proofs.line.lines_of.Given as goal

-- the lines so far join their boxes
abbrev pub invariant-loop-link : goal.invariant-loop-link
invariant-loop-link g l = AreJoined l.boxes (take l.link-index l.links) l.lines.items

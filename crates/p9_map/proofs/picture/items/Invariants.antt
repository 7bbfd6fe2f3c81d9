use Rattle.std.proofs.Common.{◌≡◌, map, take}
use Rattle.p9_map.proofs.picture.items.Given as goal

-- the items so far are those of the nodes so far
abbrev pub invariant-loop-i : goal.invariant-loop-i
invariant-loop-i g l = map (λ i. i.node) l.items.items ≡ map (λ s. s.node) (take l.i l.spots)

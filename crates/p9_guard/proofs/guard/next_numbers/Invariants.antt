use Rattle.std.proofs.Common.{◌≡◌, map, take}
use Rattle.p9_guard.proofs.guard.next_numbers.Given as goal

-- the numbers of the servers so far
abbrev pub invariant-loop-tree : goal.invariant-loop-tree
invariant-loop-tree g l = l.base.items ≡ take l.tree-index (map (λ s. s.next) l.forest)

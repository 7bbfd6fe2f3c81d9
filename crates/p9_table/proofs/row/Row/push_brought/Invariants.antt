use Rattle.std.proofs.Common.{◌≡◌, ◌++◌, map, take, false}
use Rattle.p9_table.specs.Row.{member}
use Rattle.p9_table.proofs.row.Row.push_brought.Given as goal

-- the members of the nodes so far have joined
abbrev pub invariant-loop-node : goal.invariant-loop-node
invariant-loop-node g l = l.self ≡ l.initial.self ++ map (member false) (take l.node-index l.others)

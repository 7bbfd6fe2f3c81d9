use Rattle.std.specs.List.{All}
use Rattle.p9_map.specs.Line.{IsBetween}
use Rattle.p9_map.proofs.link.push_row.Given as goal

-- each link so far is between boxes
abbrev pub invariant-loop-i : goal.invariant-loop-i
invariant-loop-i g l = All (IsBetween l.spots) l.links.items

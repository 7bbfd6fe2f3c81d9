use Rattle.std.specs.List.{All}
use Rattle.p9_map.specs.Line.{IsBetween}
use Rattle.p9_map.proofs.link.links.Given as goal

-- each link so far is between boxes
abbrev pub invariant-loop-row : goal.invariant-loop-row
invariant-loop-row g l = All (IsBetween l.spots) l.links.items

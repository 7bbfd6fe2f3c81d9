use Rattle.std.specs.List.{All}
use Rattle.p9_map.specs.Line.{IsBetween}
use Rattle.p9_map.proofs.link.entry_links.Given as goal

-- each link so far is between boxes
abbrev pub invariant-loop-to : goal.invariant-loop-to
invariant-loop-to g l = All (IsBetween l.spots) l.links.items

use Rattle.std.proofs.Common.{map}
use Rattle.p9_view.proofs.Names.{IsAbove}
use Rattle.p9_view.proofs.tour.Tour.names_from.Given as goal

-- the entry that is reached is there, and a path to it leads on by the names to the entry
abbrev pub invariant-loop-parent : goal.invariant-loop-parent
invariant-loop-parent g l =
    let entries = l.self in
    IsAbove entries l.here l.index (map (λ n. n.now) l.names.items)

-- each entry is below an earlier one
abbrev pub decreases-loop-parent : goal.decreases-loop-parent
decreases-loop-parent g l = l.here

use Rattle.std.proofs.Common.{◌≡◌, ◌++◌, reverse, vec_len}
use Rattle.p9_view.specs.Visit.{entries_below}
use Rattle.p9_view.proofs.visit.await_ways.Given as goal

-- the ways that are left, and what waits, are all that will wait
abbrev pub invariant-loop-way : goal.invariant-loop-way
invariant-loop-way g l =
    entries_below l.parent l.above l.ways.items ++ reverse l.waiting.items
    ≡ entries_below l.parent l.above l.initial.ways.items ++ reverse l.initial.waiting.items

abbrev pub decreases-loop-way : goal.decreases-loop-way
decreases-loop-way g l = vec_len l.ways

use Rattle.std.proofs.Common.{◌-◌, ◌^◌, length, reverse}
use Rattle.std.specs.Option.{option_map}
use Rattle.p9_space.specs.Rights.{who_view}
use Rattle.p9_view.specs.Visit.{IsUnderway}
use Rattle.p9_view.proofs.visit.tour_of.Given as goal

-- what is below each entry is there or waits
abbrev pub invariant-loop-entry : goal.invariant-loop-entry
invariant-loop-entry g l =
    let forest = l.forest in
    let table = l.table in
    let tour = l.underway.tour in
    IsUnderway forest table (option_map who_view l.who) tour (reverse l.underway.waiting.items) l.underway.met

-- no list is longer than memory
abbrev pub decreases-loop-entry : goal.decreases-loop-entry
decreases-loop-entry g l = let tour = l.underway.tour in 2 ^ 64 - length tour

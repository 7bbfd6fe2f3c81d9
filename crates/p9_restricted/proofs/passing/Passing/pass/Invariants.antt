use Rattle.std.proofs.Common.{length, ◌-◌}
use Rattle.p9_restricted.specs.Masked.{Passes}
use Rattle.p9_restricted.proofs.passing.Passing.pass.Given as goal

abbrev pub invariant-loop-at : goal.invariant-loop-at
invariant-loop-at g l = Passes l.initial.self l.initial.bytes l.self l.bytes l.at

abbrev pub decreases-loop-at : goal.decreases-loop-at
decreases-loop-at g l = length l.initial.bytes - l.at

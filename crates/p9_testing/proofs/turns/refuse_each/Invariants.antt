use Rattle.std.proofs.Common.{◌≡◌, ◌+◌, ◌-◌, ◌≤◌}
use Rattle.p9_testing.specs.Turns.{TakesTurns}
use Rattle.p9_testing.proofs.turns.refuse_each.Given as goal

abbrev pub invariant-loop-n : goal.invariant-loop-n
invariant-loop-n g l =
    goal.M-IsAlwaysCallable g l.make
    × goal.R-IsAlwaysCallable g l.run
    × TakesTurns (goal.M-step g) (goal.R-step g) l.initial.make l.make l.initial.run l.run (l.n - 1)
    × (2 ≤ l.n → l.refusals + 2 ≡ l.n)

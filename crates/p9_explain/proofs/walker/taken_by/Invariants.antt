use Rattle.std.proofs.Common.{◌≡◌, map, take}
use Rattle.p9_explain.specs.Walker.{taken_by}
use Rattle.p9_explain.proofs.walker.taken_by.Given as goal

-- the steps so far are as the user takes them
abbrev pub invariant-loop-step : goal.invariant-loop-step
invariant-loop-step g l = l.taken.items ≡ map (taken_by l.user) (take l.step-index l.steps)

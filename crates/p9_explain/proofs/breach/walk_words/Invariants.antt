use Rattle.std.proofs.Common.{take}
use Rattle.std.specs.String.{string_bytes}
use Rattle.p9_explain.specs.Told.{IsWalkTold}
use Rattle.p9_explain.proofs.breach.walk_words.Given as goal

-- the steps so far are told
abbrev pub invariant-loop-step : goal.invariant-loop-step
invariant-loop-step g l = IsWalkTold l.teller.world.now (take l.step-index l.steps) (string_bytes l.text)

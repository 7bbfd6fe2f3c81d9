use Rattle.std.proofs.Common.{◌≡◌, ◌++◌, drop}
use Rattle.p9_space.specs.Place.{root_place}
use Rattle.p9_map.specs.Walk.{hops_from}
use Rattle.p9_map.proofs.walk.hops_of.Given as goal

-- the hops so far, and those from the place on
abbrev pub invariant-loop-step : goal.invariant-loop-step
invariant-loop-step g l =
    l.hops.items
    ++ hops_from l.world.forest l.place (drop l.step-index l.steps) l.breach.member
    ≡ hops_from l.world.forest root_place l.steps l.breach.member

use Rattle.std.proofs.Common.{◌<◌, length, reverse}
use Rattle.p9_cert.specs.Policy.{policy_of}
use Rattle.p9_judge.specs.Search.{IsWay}
use Rattle.p9_judge.proofs.search.Search.steps_to.Given as goal

-- the steps so far, backwards, lead on from the position
abbrev pub invariant-loop-origin : goal.invariant-loop-origin
invariant-loop-origin g l = record {
  within : l.position < length l.self.places.items;
  way : IsWay (policy_of l.world) l.world.forest l.self.places.items l.position (reverse l.steps.items) l.fn.position;
}

abbrev pub decreases-loop-origin : goal.decreases-loop-origin
decreases-loop-origin g l = l.position

use Rattle.std.proofs.Common.{◌-◌, ◌^◌}
use Rattle.p9_cert.specs.Policy.{policy_of}
use Rattle.p9_judge.specs.Search.{AreTested, IsSearch}
use Rattle.p9_judge.proofs.verdict.verdict_of.Given as goal

-- what was discovered had to be, and the places so far are tested
abbrev pub invariant-loop-place : goal.invariant-loop-place
invariant-loop-place g l = record {
  search : IsSearch (policy_of l.world) l.world.forest l.table l.search.places.items
      l.search.passed.keys;
  tested : AreTested (policy_of l.world) l.world.forest l.table l.tested l.search.places.items
      l.search.passed.keys;
}

-- a list of places is shorter than the greatest number of 64 bits
abbrev pub decreases-loop-place : goal.decreases-loop-place
decreases-loop-place g l = 2 ^ 64 - l.tested

use Rattle.std.proofs.Common.{take}
use Rattle.std.specs.List.{AllByRecursion}
use Rattle.p9_cert.specs.Policy.{policy_of}
use Rattle.p9_cert.specs.Rows.{is_row}
use Rattle.p9_cert.specs.Safe.{IsSafeMember}
use Rattle.p9_judge.specs.Search.{IsGrown, IsSearch}
use Rattle.p9_judge.proofs.search.Search.pass.Given as goal

-- nothing is lost, and the members so far are safe
abbrev pub invariant-loop-member : goal.invariant-loop-member
invariant-loop-member g l = record {
  search :
      IsSearch (policy_of l.world) l.world.forest l.table l.self.places.items l.self.passed.keys;
  grown :
      IsGrown l.fn.self.places.items l.self.places.items l.fn.self.passed.keys l.self.passed.keys;
  safe : AllByRecursion
      (λ m. IsSafeMember (policy_of l.world) l.world.forest (is_row l.self.passed.keys) m.node)
      (take l.member-index l.member-items);
}

use Rattle.std.proofs.Common.{◌≡◌, [], true, take}
use Rattle.std.specs.List.{list_any}
use Rattle.p9_view.specs.Passing.{is_passed_by}
use Rattle.p9_view.specs.Ranks.{HasAdded}
use Rattle.p9_view.proofs.passing.passers.Given as goal

-- those who pass one of the members so far
abbrev pub invariant-loop-member : goal.invariant-loop-member
invariant-loop-member g l =
    HasAdded (λ user. list_any (is_passed_by l.world user) (take l.member-index l.members) ≡ true)
    l.ranks.users.keys [] l.named.keys

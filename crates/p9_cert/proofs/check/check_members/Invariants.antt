use Rattle.std.proofs.Common.{◌≡◌, drop}
use Rattle.p9_cert.specs.Gap.{members_gap}
use Rattle.p9_cert.proofs.check.check_members.Given as goal

-- the members that are left have the first gap
abbrev pub invariant-loop-member : goal.invariant-loop-member
invariant-loop-member g l =
    let forest = l.forest in
    members_gap forest (drop l.member-index l.members) ≡ members_gap forest l.members

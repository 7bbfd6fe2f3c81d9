use Rattle.std.proofs.Common.{◌≡◌, drop}
use Rattle.p9_cert.specs.Gap.{first_of}
use Rattle.p9_cert.specs.Policy.{policy_of}
use Rattle.p9_fixed.specs.Change.{member_change, place_change}
use Rattle.p9_fixed.proofs.member.place_change.Given as goal

-- the members that are left have the first change
abbrev pub invariant-loop-member : goal.invariant-loop-member
invariant-loop-member g l =
    first_of (member_change (policy_of l.world) l.world.forest l.fn.place)
    (drop l.member-index l.member-items)
    ≡ place_change (policy_of l.world) l.world.forest l.table l.fn.place

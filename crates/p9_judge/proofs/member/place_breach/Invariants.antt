use Rattle.std.proofs.Common.{◌≡◌, drop}
use Rattle.p9_cert.specs.Gap.{first_of}
use Rattle.p9_cert.specs.Policy.{policy_of}
use Rattle.p9_judge.specs.Breach.{breaching, place_breach}
use Rattle.p9_judge.proofs.member.place_breach.Given as goal

-- the members that are left have the first fault
abbrev pub invariant-loop-member : goal.invariant-loop-member
invariant-loop-member g l =
    first_of (breaching (policy_of l.world) l.world.forest) (drop l.member-index l.member-items)
    ≡ place_breach (policy_of l.world) l.world.forest l.table l.fn.place

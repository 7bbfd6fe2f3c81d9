use Rattle.std.proofs.Common.{◌≡◌, drop}
use Rattle.p9_policy.specs.Policy.{policy_of}
use Rattle.p9_cert.specs.Gap.{faulty, first_of, place_fault}
use Rattle.p9_cert.proofs.place.place_fault.Given as goal

-- the members that are left have the first fault
abbrev pub invariant-loop-member : goal.invariant-loop-member
invariant-loop-member g l =
    first_of (faulty (policy_of l.world) l.world.forest l.rows) (drop l.member-index l.member-items)
    ≡ place_fault (policy_of l.world) l.world.forest l.table l.rows l.fn.place

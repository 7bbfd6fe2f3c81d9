use Rattle.std.proofs.Common.{drop, map}
use Rattle.p9_world.proofs.Members.{Joined}
use Rattle.p9_world.proofs.group.add_members.Given as goal

-- the members so far, and those that are left
abbrev pub invariant-loop-member : goal.invariant-loop-member
invariant-loop-member g l =
    Joined l.distinct l.fn.group l.group (map (λ m. m.now) (drop l.member-index l.members))
    (map (λ m. m.now) l.members)

use Rattle.std.proofs.Common.{◌≡◌, true, false, map, refl, sym, arith}
use Rattle.p9_base.specs.User.{is_user}
use Rattle.p9_base.specs.Group.{has_member}
use Rattle.p9_world.proofs.Members.{Joined-again, Joined-all, Joined-new, Joined-none}
use Rattle.p9_world.proofs.Members.{distinct-all, group-all, next-user, no-user}
use Rattle.p9_world.proofs.group.add_members.Goals as goal
use Rattle.p9_world.proofs.group.add_members.Goals.{then-not-branch, else-not-branch}

pub loop-member-init : goal.loop-member-init
loop-member-init g c = Joined-none c.args.group.now (map (λ m. m.now) c.args.members.now) c.requires

pub returns-in_default-clause-bad : goal.returns-in_default-clause-bad
returns-in_default-clause-bad g c = (
  refl,
  no-user (λ m. m.now) c.args.members.now c.loop-member.member-index _ _ _ _
      c.loop-member-test.true c.loop-member.invariant (c.in_default.ensures.none.0 refl),
)

pub loop-member-preserved : goal.loop-member-preserved
loop-member-preserved g c =
    let left = next-user (λ m. m.now) c.args.members.now c.loop-member.member-index _ c.in-Some.user
    c.loop-member-test.true c.in-Some.ensures.some.0 in
    let joined = rw left at c.loop-member.invariant in
    let same = c.in-Some.ensures.some.0 in
    let valid : is_user c.in-Some.user ≡ true = rw same c.in-Some.ensures.some.1 in
    elim c.if-not-branch.branch [
      | then-not-branch w ↦
          (let there : has_member c.in-Some.user c.loop-member.group ≡ true = grind (arith) in
          rw (w.distinct-is, c.in_ok-add_member.ensures.ok)
          (Joined-again _ _ _ _ _ _ joined valid there))
      | else-not-branch w ↦
          (let new : has_member c.in-Some.user c.loop-member.group ≡ false = grind (arith) in
          rw (w.distinct-is, c.in_ok-add_member.ensures.ok)
          (Joined-new _ _ _ _ _ _ joined valid new))
    ]

pub returns-clause-users : goal.returns-clause-users
returns-clause-users g c =
    sym (Joined-all (λ m. m.now) c.args.members.now c.loop-member.member-index _ _ _
    c.loop-member-test.false c.loop-member.invariant).users

pub returns-clause-distinct : goal.returns-clause-distinct
returns-clause-distinct g c =
    distinct-all _ _ _ _
    (Joined-all (λ m. m.now) c.args.members.now c.loop-member.member-index _ _ _
    c.loop-member-test.false c.loop-member.invariant)

pub returns-clause-members : goal.returns-clause-members
returns-clause-members g c d =
    group-all _ _ _ _
    (Joined-all (λ m. m.now) c.args.members.now c.loop-member.member-index _ _ _
    c.loop-member-test.false c.loop-member.invariant) d

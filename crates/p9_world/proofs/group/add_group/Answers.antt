use Rattle.std.proofs.Common.{◌≡◌, ℕ, List, Bor, is_some, map, refl, sym, ap, ◌∙◌}
use Rattle.std.proofs.lemmas.Result.{err_from_is_err_and}
use Rattle.p9_base.specs.Group.{group_of}
use Rattle.p9_world.specs.World.{World}
use Rattle.p9_world.proofs.Refused.{group_line-bad, group_line-bad_leader, group_line-listed}
use Rattle.p9_world.proofs.Refused.{group_line-twice}
use Rattle.p9_world.proofs.group.add_group.Goals as goal
use Rattle.p9_world.proofs.group.add_group.Goals.{then-contains-via-then-contains}
use Rattle.p9_world.proofs.group.add_group.Goals.{then-contains-via-else-contains+then-not-distinct}

pub returns-in_default : goal.returns-in_default
returns-in_default g c = (
  group_line-bad_leader c.args.name.now c.args.leader.now
      (map (λ (m : Bor (List ℕ)). m.now) c.args.members.now) c.args.world.now
      c.in_default.ensures.some.1 (c.in_default.ensures'.none.0 refl),
  refl,
)

pub returns-in_err-distinct : goal.returns-in_err-distinct
returns-in_err-distinct g c =
    let p = err_from_is_err_and c.from_residual.result c.from_residual.ensures.1 in
    rw (p.1, p.2)
    (group_line-bad c.args.name.now c.args.leader.now
    (map (λ (m : Bor (List ℕ)). m.now) c.args.members.now) c.args.world.now
    c.in-Some-Some.ensures.some.1 c.in-Some-Some.ensures'.some.1 (Unit {0}) c.in_err-distinct.field-0.0
    c.in_err-distinct.ensures.bad)

pub returns-then-contains : goal.returns-then-contains
returns-then-contains g c =
    let is : is_some (group_of c.args.name.now c.args.world.now.groups) ≡ c.contains.result =
    ap (λ (w : World). is_some (group_of c.args.name.now w.groups)) (sym c.world.view_is)
    ∙ ap (λ name. is_some (group_of name c.world.inside.groups))
    (sym c.in-Some-Some.ensures.some.0)
    ∙ sym c.contains.ensures in
    elim c.then-contains.branch [
      | then-contains-via-then-contains w ↦ (
        group_line-listed c.args.name.now c.args.leader.now
            (map (λ (m : Bor (List ℕ)). m.now) c.args.members.now) c.args.world.now
            c.in-Some-Some.ensures.some.1 c.in-Some-Some.ensures'.some.1
            c.in_ok-distinct.ensures.users (is ∙ w.if-contains.true),
        refl,
      )
      | then-contains-via-else-contains+then-not-distinct w ↦ (
        group_line-twice c.args.name.now c.args.leader.now
            (map (λ (m : Bor (List ℕ)). m.now) c.args.members.now) c.args.world.now
            c.in-Some-Some.ensures.some.1 c.in-Some-Some.ensures'.some.1
            c.in_ok-distinct.ensures.users (is ∙ w.if-contains.false)
            (sym c.in_ok-distinct.ensures.distinct ∙ w.if-not-distinct.true),
        refl,
      )
    ]

pub returns-in_err-insert : goal.returns-in_err-insert
returns-in_err-insert g c =
    let p =
    err_from_is_err_and c.from_residual-in_err-insert.result
    c.from_residual-in_err-insert.ensures.1 in
    rw (p.1, p.2, c.in_err-insert.ensures.err) c.world.view_is

pub invariant_of-world-2 : goal.invariant_of-world-2
invariant_of-world-2 g c = record {
  world = record {
    named = c.world.invariant.world.named;
    few = c.world.invariant.world.few;
    distinct = c.world.invariant.world.distinct;
    below = c.world.invariant.world.below;
  };
  users = c.world.invariant.users;
  vars = c.world.invariant.vars;
  servers = c.world.invariant.servers;
  hidden = c.world.invariant.hidden;
  led = c.world.invariant.led;
}

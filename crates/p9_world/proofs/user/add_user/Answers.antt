use Rattle.std.proofs.Common.{◌≡◌, ◌++◌, ◌∷◌, [], refl, sym, ◌∙◌, arith, false, is_some}
use Rattle.p9_world.specs.Positions.{position_at}
use Rattle.p9_world.proofs.Readers.{reader-same, reader-user, user_line-again, user_line-new}
use Rattle.p9_world.proofs.user.add_user.Goals as goal

pub returns-then-has : goal.returns-then-has
returns-then-has g c = (
  rw (← c.world.view_is)
      (user_line-again _ _ _ _ _ _ c.world.invariant c.args.name.now c.in-Some.ensures.some.1
      (sym c.has.ensures ∙ c.if-has.true)),
  refl,
)

pub invariant_of-world-in_err-insert : goal.invariant_of-world-in_err-insert
invariant_of-world-in_err-insert g c =
    rw c.reserve.ensures.items
    (reader-same _ _ _ _ _ _ c.world.invariant c.insert.new.self _ _ c.in_err-insert.ensures.err
    (λ q. refl) (λ q. refl))

pub invariant_of-world-2 : goal.invariant_of-world-2
invariant_of-world-2 g c =
    let joined : c.push.new.self.items ≡ c.world.inside.users.items ++ c.args.name.now ∷ [] =
    rw (c.unwrap.ensures, c.reserve.ensures.items, c.in-Some.ensures.some.0) at c.push.ensures.items
    in
    let absent : is_some (position_at c.world.inside.user_positions c.args.name.now) ≡ false =
    sym c.has.ensures ∙ c.if-has.false in
    rw joined
    (reader-user _ _ _ _ _ _ c.world.invariant c.args.name.now c.len.result c.insert.new.self absent
    (omega (arith, c.len.ensures, c.reserve.ensures.len, c.world.inside.users.ok.0))
    c.in_ok-insert.ensures.ok)

pub returns : goal.returns
returns g c =
    let joined : c.push.new.self.items ≡ c.world.inside.users.items ++ c.args.name.now ∷ [] =
    rw (c.unwrap.ensures, c.reserve.ensures.items, c.in-Some.ensures.some.0) at c.push.ensures.items
    in
    let absent : is_some (position_at c.world.inside.user_positions c.args.name.now) ≡ false =
    sym c.has.ensures ∙ c.if-has.false in
    rw (← c.world.view_is, joined)
    (user_line-new _ _ _ _ _ _ c.world.invariant c.args.name.now c.in-Some.ensures.some.1 absent)

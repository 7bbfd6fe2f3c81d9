use Rattle.std.proofs.Common.{◌≡◌, ◌++◌, ◌∷◌, [], refl, sym, ◌∙◌, arith, true, false, is_some}
use Rattle.std.proofs.Common.{string_bytes}
use Rattle.std.proofs.lemmas.List.{length-map}
use Rattle.p9_base.specs.Variable.{Variable, variables_of}
use Rattle.p9_world.specs.Positions.{position_at}
use Rattle.p9_world.specs.Variable.{is_variable_name}
use Rattle.p9_world.proofs.Lists.{map-joined}
use Rattle.p9_world.proofs.Readers.{reader-same, reader-variable, set_line-again, set_line-new}
use Rattle.p9_world.proofs.variable.set_variable.Goals as goal

pub returns-then-has : goal.returns-then-has
returns-then-has g c =
    let valid : is_variable_name c.args.name.now ≡ true =
    sym c.is_variable_name.ensures ∙ c.if-not-is_variable_name.false in (
      rw (← c.world.view_is)
          (set_line-again _ _ _ _ _ _ c.world.invariant c.args.name.now c.args.value.now valid
          (sym c.has.ensures ∙ c.if-has.true)),
      refl,
    )

pub invariant_of-world-in_err-insert : goal.invariant_of-world-in_err-insert
invariant_of-world-in_err-insert g c =
    rw c.reserve.ensures.items
    (reader-same _ _ _ _ _ _ c.world.invariant _ c.insert.new.self _ (λ q. refl)
    c.in_err-insert.ensures.err (λ q. refl))

pub invariant_of-world-2 : goal.invariant_of-world-2
invariant_of-world-2 g c =
    let vars = rw (c.unwrap.ensures, c.reserve.ensures.items) at c.push.ensures.items in
    let joined : variables_of c.push.new.self.items
    ≡ variables_of c.world.inside.vars.items ++ (c.args.name.now, c.args.value.now) ∷ [] =
    map-joined (λ var. (string_bytes var.0, string_bytes var.1)) _ _ _
    (c.args.name.now, c.args.value.now) vars
    (rw (c.in_ok-owned.ensures.ok, c.in_ok-value.ensures.ok) refl) in
    let absent : is_some (position_at c.world.inside.variable_positions c.args.name.now) ≡ false =
    sym c.has.ensures ∙ c.if-has.false in
    rw joined
    (reader-variable _ _ _ _ _ _ c.world.invariant c.args.name.now c.args.value.now c.len.result
    c.insert.new.self absent (omega (
      arith,
      c.len.ensures,
      c.reserve.ensures.len,
      c.world.inside.vars.ok.0,
      length-map {B = Variable} c.world.inside.vars.items (λ var. (string_bytes var.0, string_bytes var.1)),
    ))
    c.in_ok-insert.ensures.ok)

pub returns : goal.returns
returns g c =
    let vars = rw (c.unwrap.ensures, c.reserve.ensures.items) at c.push.ensures.items in
    let joined : variables_of c.push.new.self.items
    ≡ variables_of c.world.inside.vars.items ++ (c.args.name.now, c.args.value.now) ∷ [] =
    map-joined (λ var. (string_bytes var.0, string_bytes var.1)) _ _ _
    (c.args.name.now, c.args.value.now) vars
    (rw (c.in_ok-owned.ensures.ok, c.in_ok-value.ensures.ok) refl) in
    let absent : is_some (position_at c.world.inside.variable_positions c.args.name.now) ≡ false =
    sym c.has.ensures ∙ c.if-has.false in
    let valid : is_variable_name c.args.name.now ≡ true =
    sym c.is_variable_name.ensures ∙ c.if-not-is_variable_name.false in
    rw (← c.world.view_is, joined)
    (set_line-new _ _ _ _ _ _ c.world.invariant c.args.name.now c.args.value.now valid absent)

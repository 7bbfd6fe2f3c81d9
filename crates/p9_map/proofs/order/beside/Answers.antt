use Rattle.std.proofs.Common.{◌≡◌, ◌+◌, ◌-◌, ◌<◌, sym, ap, ◌∙◌, arith}
use Rattle.p9_map.specs.Order.{next_beside}
use Rattle.p9_map.proofs.Follows.{beside-found, beside-none, beside-top, beside-up}
use Rattle.p9_map.proofs.order.beside.Goals as goal

pub returns-in_err-dir : goal.returns-in_err-dir
returns-in_err-dir g c =
    let left = c.args.spot.node.number - c.loop.counter in
    c.from_residual.ensures
    ∙ (sym (beside-top c.args.forest.now left c.loop.here (sym c.in_err-dir.ensures))
    ∙ c.loop.invariant)

pub returns-in-Some : goal.returns-in-Some
returns-in-Some g c =
    let left = c.args.spot.node.number - c.loop.counter in
    let some : 0 < left = omega arith in
    sym
    (beside-found c.args.forest.now left c.loop.here c.in-Some.next c.in_ok-dir.dir some
    (sym c.in_ok-dir.ensures) (sym c.in-Some.ensures))
    ∙ c.loop.invariant

pub loop-preserved : goal.loop-preserved
loop-preserved g c =
    let left = c.args.spot.node.number - c.loop.counter in
    let some : 0 < left = omega arith in
    let less : c.args.spot.node.number - (c.loop.counter + 1) ≡ left - 1 = omega arith in
    ap (λ k. next_beside c.args.forest.now k
    (record { node = c.in_ok-dir.dir; depth = c.saturating_sub.result })) less
    ∙ ap (λ d. next_beside c.args.forest.now (left - 1) (record { node = c.in_ok-dir.dir; depth = d }))
    c.saturating_sub.ensures
    ∙ sym
    (beside-up c.args.forest.now left c.loop.here c.in_ok-dir.dir some (sym c.in_ok-dir.ensures)
    (sym c.in-None.ensures))
    ∙ c.loop.invariant

pub returns : goal.returns
returns g c =
    let left = c.args.spot.node.number - c.loop.counter in
    let none : left ≡ 0 = omega arith in
    sym (beside-none c.args.forest.now left c.loop.here none) ∙ c.loop.invariant

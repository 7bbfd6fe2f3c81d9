use Rattle.std.proofs.Common.{◌≡◌, ◌∙◌, ◌-◌, ◌<◌, ◌+◌, Some, sym, ap, subst}
use Rattle.std.specs.Option.{option_copied}
use Rattle.std.proofs.lemmas.Result.{err_from_is_err_and}
use Rattle.p9_base.specs.NodeRef.{beside}
use Rattle.p9_tree.specs.Forest.{IsForest, child_in_after, next_of}
use Rattle.p9_world.specs.World.{World}
use Rattle.p9_policy.specs.Policy.{policy_of}
use Rattle.p9_cert.specs.Gap.{child_gap, children_gap, first_of, place_gap}
use Rattle.p9_cert.proofs.Children.{children-end, children-found, children-next, children-smaller}
use Rattle.p9_cert.proofs.Children.{left-all, left_of, passed}
use Rattle.p9_cert.proofs.check.check_children_of.Goals as goal

pub loop-child-init : goal.loop-child-init
loop-child-init g c =
    ap (first_of (child_gap (policy_of c.args.world.now) c.args.world.now.forest c.args.table.now
    c.args.rows.now c.args.number c.args.row)) (left-all c.args.row c.args.world.now.forest)

pub returns-in_err-check_child : goal.returns-in_err-check_child
returns-in_err-check_child g c =
    let world = c.args.world.now in
    let gap =
    place_gap (policy_of world) world.forest c.args.table.now c.args.rows.now c.args.number in
    let sound = subst (λ (w : World). IsForest w.forest) c.world.view_is c.well_formed-2.ensures in
    let child =
    subst (λ (w : World). Some c.in-Some.child.now
    ≡ child_in_after c.args.row c.loop-child.floor w.forest) c.world.view_is c.in-Some.ensures in
    let at = c.beside.ensures ∙ ap (beside c.args.row) c.number-child.ensures in
    let p = err_from_is_err_and c.from_residual.result c.from_residual.ensures.1 in
    rw (p.1, p.2)
    (children-found (child_gap (policy_of world) world.forest c.args.table.now c.args.rows.now
    c.args.number c.args.row) c.args.row c.loop-child.floor world.forest sound c.in-Some.child.now
    c.in_err-check_child.field-0.0
    (children_gap (policy_of world) world.forest c.args.table.now c.args.rows.now c.args.number
    c.args.row)
    (sym child) (ap gap (sym at) ∙ sym c.in_err-check_child.ensures) c.loop-child.invariant)

pub loop-child-smaller : goal.loop-child-smaller
loop-child-smaller g c =
    let world = c.args.world.now in
    let sound = subst (λ (w : World). IsForest w.forest) c.world.view_is c.well_formed-2.ensures in
    let child =
    subst (λ (w : World). Some c.in-Some.child.now
    ≡ child_in_after c.args.row c.loop-child.floor w.forest) c.world.view_is c.in-Some.ensures in
    subst (λ n. next_of c.args.row.server world.forest - (n + 1)
    < next_of c.args.row.server world.forest - passed c.loop-child.floor)
    (sym c.number-child.ensures)
    (children-smaller c.args.row c.loop-child.floor world.forest c.in-Some.child.now sound
    (sym child))

pub loop-child-preserved : goal.loop-child-preserved
loop-child-preserved g c =
    let world = c.args.world.now in
    let all =
    children_gap (policy_of world) world.forest c.args.table.now c.args.rows.now c.args.number
    c.args.row in
    let f =
    child_gap (policy_of world) world.forest c.args.table.now c.args.rows.now c.args.number
    c.args.row in
    let gap =
    place_gap (policy_of world) world.forest c.args.table.now c.args.rows.now c.args.number in
    let sound = subst (λ (w : World). IsForest w.forest) c.world.view_is c.well_formed-2.ensures in
    let child =
    subst (λ (w : World). Some c.in-Some.child.now
    ≡ child_in_after c.args.row c.loop-child.floor w.forest) c.world.view_is c.in-Some.ensures in
    let at = c.beside.ensures ∙ ap (beside c.args.row) c.number-child.ensures in
    subst (λ n. first_of f (left_of c.args.row (Some n) world.forest) ≡ all)
    (sym c.number-child.ensures)
    (children-next f c.args.row c.loop-child.floor world.forest sound c.in-Some.child.now all
    (sym child) (ap gap (sym at) ∙ sym c.in_ok-check_child.ensures) c.loop-child.invariant)

pub returns : goal.returns
returns g c =
    let world = c.args.world.now in
    let sound = subst (λ (w : World). IsForest w.forest) c.world.view_is c.well_formed-2.ensures in
    let none =
    subst (λ (w : World). option_copied c.after.result
    ≡ child_in_after c.args.row c.loop-child.floor w.forest) c.world.view_is c.after.ensures in
    children-end (child_gap (policy_of world) world.forest c.args.table.now c.args.rows.now
    c.args.number c.args.row) c.args.row c.loop-child.floor world.forest sound
    (children_gap (policy_of world) world.forest c.args.table.now c.args.rows.now c.args.number
    c.args.row)
    (sym none ∙ ap option_copied c.in_default.is) c.loop-child.invariant

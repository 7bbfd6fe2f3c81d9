use Rattle.std.proofs.Common.{◌≡◌, ◌∙◌, None, Some, true, false, sym, subst, arith, rules}
use Rattle.std.proofs.lemmas.Grind.{common_steps}
use Rattle.p9_tree.specs.Forest.{IsForest, node_of}
use Rattle.p9_tree.specs.Inside.{is_hidden, is_inside}
use Rattle.p9_world.specs.World.{World}
use Rattle.p9_policy.specs.Policy.{policy_of}
use Rattle.p9_cert.proofs.Faults.{fault-absent, fault-hidden, fault-row}
use Rattle.p9_cert.proofs.place.member_fault.Goals as goal

pub returns-then-is_row : goal.returns-then-is_row
returns-then-is_row g c =
    let world = c.args.world.now in
    let sound = subst (λ (w : World). IsForest w.forest) c.world.view_is c.well_formed-2.ensures in
    sym (fault-row (policy_of world) world.forest c.args.rows.now c.args.at sound c.requires.shown
    (sym c.is_row.ensures ∙ c.if-is_row.true))

pub returns-in_err-node : goal.returns-in_err-node
returns-in_err-node g c =
    let world = c.args.world.now in
    let absent : node_of c.args.at world.forest ≡ None = search rules in
    let safe = fault-absent (policy_of world) world.forest c.args.rows.now c.args.at absent in
    grind (arith, common_steps, safe)

pub returns-then-is_hidden : goal.returns-then-is_hidden
returns-then-is_hidden g c =
    let world = c.args.world.now in
    let here : node_of c.args.at world.forest ≡ Some c.in_ok-node.node.now = search rules in
    let outside : is_inside c.args.at world.hidden world.forest ≡ false = search rules in
    let hid : is_hidden c.args.at world.hidden ≡ true = search rules in
    c.hidden_fault.ensures
    ∙ sym (fault-hidden (policy_of world) world.forest c.args.rows.now c.args.at
    c.in_ok-node.node.now here outside hid)

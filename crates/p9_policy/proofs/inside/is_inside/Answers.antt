use Rattle.std.proofs.Common.{◌≡◌, ◌∙◌, ◌+◌, ◌<◌, true, false, ap, subst, sym}
use Rattle.std.specs.Option.{option_and_then, option_map_or}
use Rattle.p9_base.specs.declared.node_ref.NodeRef.{NodeRef}
use Rattle.p9_base.specs.NodeRef.{beside}
use Rattle.p9_tree.specs.Forest.{node_of}
use Rattle.p9_tree.specs.Inside.{is_hidden}
use Rattle.p9_policy.specs.Rows.{is_row}
use Rattle.p9_policy.proofs.Parents.{above-smaller, barred-hidden, barred-up, inside_under}
use Rattle.p9_policy.proofs.Parents.{inside-under}
use Rattle.p9_policy.proofs.inside.is_inside.Goals as goal

pub loop-above-init : goal.loop-above-init
loop-above-init g c =
    inside-under c.args.hidden.now c.args.forest.now c.args.at c.args.parent c.requires.parent

pub returns-then-is_hidden : goal.returns-then-is_hidden
returns-then-is_hidden g c =
    let forest = c.args.forest.now in
    let test =
    subst (λ (r : NodeRef). is_hidden r c.args.hidden.now ≡ true) c.beside-dir.ensures
    (sym c.is_hidden.ensures ∙ c.if-is_hidden.true) in
    sym (barred-hidden c.args.hidden.now forest c.well_formed-2.ensures c.args.at c.in-Some.parent
    test)
    ∙ sym (ap (inside_under c.args.hidden.now forest c.args.at) c.in-Some.is)
    ∙ c.loop-above.invariant

pub returns-then-is_row : goal.returns-then-is_row
returns-then-is_row g c =
    let forest = c.args.forest.now in
    let test =
    subst (λ (r : NodeRef). is_row c.args.shown.now r ≡ true) c.beside-dir.ensures
    (sym c.is_row.ensures ∙ c.if-is_row.true) in
    sym (c.requires.shown.each (beside c.args.at c.in-Some.parent) test)
    ∙ sym (ap (inside_under c.args.hidden.now forest c.args.at) c.in-Some.is)
    ∙ c.loop-above.invariant

pub loop-above-smaller : goal.loop-above-smaller
loop-above-smaller g c =
    let forest = c.args.forest.now in
    let above =
    subst (λ (r : NodeRef). c.parent_of-above.result
    ≡ option_and_then (λ n. n.parent) (node_of r forest)) c.beside-dir.ensures c.parent_of-above.ensures in
    subst (λ o. option_map_or (λ p. p + 1) c.parent_of-above.result 0 < option_map_or (λ p. p + 1) o 0)
    (sym c.in-Some.is)
    (above-smaller c.args.hidden.now forest c.well_formed-2.ensures c.args.at c.in-Some.parent
    c.parent_of-above.result above)

pub loop-above-preserved : goal.loop-above-preserved
loop-above-preserved g c =
    let forest = c.args.forest.now in
    let above =
    subst (λ (r : NodeRef). c.parent_of-above.result
    ≡ option_and_then (λ n. n.parent) (node_of r forest)) c.beside-dir.ensures c.parent_of-above.ensures in
    let test =
    subst (λ (r : NodeRef). is_hidden r c.args.hidden.now ≡ false) c.beside-dir.ensures
    (sym c.is_hidden.ensures ∙ c.if-is_hidden.false) in
    ap (inside_under c.args.hidden.now forest c.args.at) above
    ∙ barred-up c.args.hidden.now forest c.well_formed-2.ensures c.args.at c.in-Some.parent test
    ∙ sym (ap (inside_under c.args.hidden.now forest c.args.at) c.in-Some.is)
    ∙ c.loop-above.invariant

pub returns : goal.returns
returns g c =
    sym (ap (inside_under c.args.hidden.now c.args.forest.now c.args.at) c.in_default.is)
    ∙ c.loop-above.invariant

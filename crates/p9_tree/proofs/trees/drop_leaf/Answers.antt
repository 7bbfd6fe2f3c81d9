use Rattle.std.proofs.Common.{◌<◌, arith, length, refl}
use Rattle.p9_tree.specs.Server.{with_dropped}
use Rattle.p9_tree.proofs.ForestLemmas.{map-tree_absent, map-tree_changed_at}
use Rattle.p9_tree.proofs.trees.drop_leaf.Goals as goal

pub returns-in-Some : goal.returns-in-Some
returns-in-Some g c =
    let within : c.args.at.server < length c.args.trees.now.items =
    omega (arith, c.in-Some.ensures.variant.0 refl, c.args.trees.now.ok.0) in
    map-tree_changed_at g.T.Tree.state (with_dropped c.args.at.number) _ c.args.at.server
    c.in-Some.tree.now c.drop_leaf.new.self within c.in-Some.ensures.value c.drop_leaf.ensures

pub returns-in_default : goal.returns-in_default
returns-in_default g c =
    map-tree_absent g.T.Tree.state (with_dropped c.args.at.number) _ c.args.at.server
    (λ lt. c.in_default.ensures.variant.1 (omega (arith, lt, c.args.trees.now.ok.0)))

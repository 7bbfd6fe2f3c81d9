use Rattle.std.proofs.Common.{◌<◌, arith, length, refl}
use Rattle.p9_tree.specs.Node.{with_owner}
use Rattle.p9_tree.specs.Server.{with_changed}
use Rattle.p9_tree.proofs.ForestLemmas.{map-tree_absent, map-tree_changed_at}
use Rattle.p9_tree.proofs.trees.set_root.Goals as goal

pub returns-in-Some : goal.returns-in-Some
returns-in-Some g c =
    let within : c.args.server < length c.args.trees.now.items =
    omega (arith, c.in-Some.ensures.variant.0 refl, c.args.trees.now.ok.0) in
    map-tree_changed_at g.T.Tree.state (with_changed 0 (with_owner c.args.permissions c.args.uid c.args.gid)) _ c.args.server
    c.in-Some.tree.now c.set_root.new.self within c.in-Some.ensures.value c.set_root.ensures

pub returns-in_default : goal.returns-in_default
returns-in_default g c =
    map-tree_absent g.T.Tree.state (with_changed 0 (with_owner c.args.permissions c.args.uid c.args.gid)) _ c.args.server
    (λ lt. c.in_default.ensures.variant.1 (omega (arith, lt, c.args.trees.now.ok.0)))

use Rattle.std.proofs.Common.{◌<◌, ◌≤◌, arith, length, refl, subst}
use Rattle.p9_tree.specs.Saved.{skipped_to}
use Rattle.p9_tree.specs.Server.{Server}
use Rattle.p9_tree.proofs.ForestLemmas.{map-tree_absent, map-tree_changed_at, server_at-map}
use Rattle.p9_tree.proofs.trees.skip_to.Goals as goal

pub returns-in-Some : goal.returns-in-Some
returns-in-Some g c =
    let within : c.args.server < length c.args.trees.now.items =
    omega (arith, c.in-Some.ensures.variant.0 refl, c.args.trees.now.ok.0) in
    map-tree_changed_at g.T.Tree.state (skipped_to c.args.next) _ c.args.server
    c.in-Some.tree.now c.skip_to.new.self within c.in-Some.ensures.value c.skip_to.ensures

pub returns-in_default : goal.returns-in_default
returns-in_default g c =
    map-tree_absent g.T.Tree.state (skipped_to c.args.next) _ c.args.server
    (λ lt. c.in_default.ensures.variant.1 (omega (arith, lt, c.args.trees.now.ok.0)))

pub skip_to-requires-clause-more : goal.skip_to-requires-clause-more
skip_to-requires-clause-more g c =
    let within : c.args.server < length c.args.trees.now.items =
    omega (arith, c.in-Some.ensures.variant.0 refl, c.args.trees.now.ok.0) in
    subst (λ (s : Server). s.next ≤ c.args.next)
    (server_at-map g.T.Tree.state _ c.args.server c.in-Some.tree.now within
    c.in-Some.ensures.value) c.requires.more

use Rattle.std.proofs.Common.{◌<◌, length, refl, arith}
use Rattle.p9_tree.specs.Edit.{edited}
use Rattle.p9_tree.specs.TreeChange.{edit_of}
use Rattle.p9_tree.proofs.ForestLemmas.{map-tree_changed_at}
use Rattle.p9_kept.proofs.replaying.make_on.Goals as goal

pub returns-in-Ok-true-clause-made : goal.returns-in-Ok-true-clause-made
returns-in-Ok-true-clause-made g c =
    let within : c.args.server < length c.args.trees.now.items =
    omega (arith, c.in-Some.ensures.variant.0 refl) in
    map-tree_changed_at g.T.Tree.state (edited (edit_of c.args.change.now)) _ c.args.server
    c.in-Some.tree.now c.make_in.new.tree within c.in-Some.ensures.value
    (c.in-Ok-true.ensures.made c.in-Ok-true.field-0-test)

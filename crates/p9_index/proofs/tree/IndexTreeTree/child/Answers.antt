use Rattle.std.proofs.Common.{◌∙◌, sym}
use Rattle.p9_tree.specs.Node.{is_child}
use Rattle.p9_index.proofs.Finds.{number-found}
use Rattle.p9_index.proofs.tree.IndexTreeTree.child.Goals as goal

pub returns : goal.returns
returns g c =
    c.node.ensures
    ∙ number-found (is_child c.args.dir c.args.name.now) _ _ c.args.self.now.well_formed.rising
    (sym c.in_ok-child_number.ensures)

use Rattle.std.proofs.Common.{◌∙◌, Some, ap}
use Rattle.p9_index.proofs.FirstFrom.{first-none, first-some}
use Rattle.p9_index.proofs.tree.IndexTreeTree.first_from.Goals as goal

pub returns-in_err-node : goal.returns-in_err-node
returns-in_err-node g c =
    rw c.from_residual.ensures
    (first-none c.args.number _ _ c.args.self.now.index.keyed (c.range.ensures.between tt)
    c.in_err-node.ensures.steps.0)

pub returns : goal.returns
returns g c =
    ap Some c.node.ensures
    ∙ first-some c.args.number _ _ c.args.self.now.index.keyed (c.range.ensures.between tt) _ _
    c.in_ok-node.ensures.steps

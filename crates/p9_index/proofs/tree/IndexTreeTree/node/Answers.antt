use Rattle.std.proofs.Common.{◌∙◌, Some, ap, sym}
use Rattle.p9_index.proofs.Nodes.{node_at-values_of}
use Rattle.p9_index.proofs.tree.IndexTreeTree.node.Goals as goal

pub returns : goal.returns
returns g c =
    ap Some c.node.ensures ∙ c.in_ok-get.ensures.value
    ∙ sym (node_at-values_of _ _ c.args.self.now.index.keyed)

pub returns-in_err-get : goal.returns-in_err-get
returns-in_err-get g c =
    rw c.from_residual.ensures
    (c.in_err-get.ensures.value ∙ sym (node_at-values_of _ _ c.args.self.now.index.keyed))

use Rattle.std.proofs.Common.{◌∙◌, sym}
use Rattle.std.specs.Prelude.{◌&&◌}
use Rattle.p9_tree.specs.Node.{is_above, is_in}
use Rattle.p9_index.proofs.Finds.{number-found}
use Rattle.p9_index.proofs.tree.IndexTreeTree.after.Goals as goal

pub returns : goal.returns
returns g c =
    c.node.ensures
    ∙ number-found (λ n. is_in c.args.dir n && is_above c.args.floor n) _ _
    c.args.self.now.well_formed.rising (sym c.in_ok-number_after.ensures)

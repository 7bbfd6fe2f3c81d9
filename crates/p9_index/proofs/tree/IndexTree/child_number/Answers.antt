use Rattle.std.proofs.Common.{◌∙◌}
use Rattle.p9_index.proofs.Numbers.{number_at-child}
use Rattle.p9_index.proofs.tree.IndexTree.child_number.Goals as goal

pub returns : goal.returns
returns g c =
    let t = c.args.self.now in
    c.number_at.ensures
    ∙ number_at-child t.nodes.entries t.entries t.index t.well_formed.rising
    (record { parent = c.args.dir; name = c.args.name.now })

use Rattle.p9_tree.proofs.ForestLemmas.{IsForest-map}
use Rattle.p9_tree.proofs.forest.Forest.well_formed.Goals as goal

pub returns : goal.returns
returns g c =
    rw (← c.self.view_is)
    (IsForest-map g.T.Tree.state g.met.T.Tree.well_formed _ c.self.invariant.few)

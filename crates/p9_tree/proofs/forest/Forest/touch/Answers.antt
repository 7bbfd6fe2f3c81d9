use Rattle.std.proofs.Common.{map}
use Rattle.p9_tree.proofs.JournalLemmas.{kept-touched}
use Rattle.p9_tree.proofs.forest.Forest.touch.Goals as goal

pub invariant_of-self : goal.invariant_of-self
invariant_of-self g c =
    kept-touched g.T.Journal.Journal.is_whole g.T.Journal.Journal.stands_for
    c.self.inside.journal (map g.T.Tree.state c.self.inside.trees.items) _ c.args.at.server
    c.args.at.number c.args.clock c.touch.ensures c.self.invariant

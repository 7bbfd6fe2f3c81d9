use Rattle.std.proofs.Common.{refl, subst}
use Rattle.p9_tree.specs.Node.{IsTellable}
use Rattle.p9_tree.proofs.Added.{WellFormed-added}
use Rattle.p9_tree.proofs.plain.PlainTreeTree.add.Goals as goal

pub invariant_of-self-2 : goal.invariant_of-self-2
invariant_of-self-2 g c =
    rw (c.in_ok-push.ensures.items, c.in_ok-node.ensures.node) (record {
      well_formed =
          WellFormed-added _ c.args.dir _ c.args.self.now.well_formed c.requires refl refl
          c.new.ensures.name
          (subst IsTellable c.in_ok-node.ensures.node c.in_ok-node.ensures.tellable);
    })

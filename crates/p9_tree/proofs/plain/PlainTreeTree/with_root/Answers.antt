use Rattle.p9_tree.proofs.Rooted.{WellFormed-rooted}
use Rattle.p9_tree.proofs.plain.PlainTreeTree.with_root.Goals as goal

pub invariant_of-result : goal.invariant_of-result
invariant_of-result g c =
    rw (
      c.in_ok-push.ensures.items,
      c.new-nodes.ensures.items,
      c.root.ensures,
    ) (record { well_formed = WellFormed-rooted })

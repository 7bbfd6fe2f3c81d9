use Rattle.std.proofs.Common.{◌≡◌, ◌∙◌, ◌++◌, ◌∷◌, [], List, ℕ, ap, map, sym, take}
use Rattle.p9_guard.proofs.Progress.{taken-more-twice}
use Rattle.p9_guard.proofs.guard.next_numbers.Goals as goal

pub loop-tree-preserved : goal.loop-tree-preserved
loop-tree-preserved g c =
    let trees = c.trees-tree-items.result.now in
    let so_far = take c.loop-tree.tree-index (map (λ s. s.next) (map g.T.Tree.state trees)) in
    rw (← c.trees-tree-items.ensures)
    (c.in_ok-push.ensures.items
    ∙ ap (λ (zs : List ℕ). zs ++ c.next.result ∷ [])
    (rw (← c.trees-tree-items.ensures) at c.loop-tree.invariant)
    ∙ ap (λ (k : ℕ). so_far ++ k ∷ []) c.next.ensures
    ∙ sym (taken-more-twice (λ s. s.next) g.T.Tree.state trees c.loop-tree.tree-index
    c.tree-item.result c.loop-tree-test.true c.tree-item.is))

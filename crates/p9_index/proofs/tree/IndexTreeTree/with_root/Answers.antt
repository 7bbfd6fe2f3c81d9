use Rattle.std.proofs.Common.{◌≡◌, [], ◌∷◌, ◌∙◌, ap, subst, sym}
use Rattle.std.specs.BTreeMap.{insert_entry}
use Rattle.std.specs.Ordering.{nat_cmp}
use Rattle.p9_tree.specs.Node.{Node}
use Rattle.p9_tree.specs.Server.{WellFormed, root_node}
use Rattle.p9_tree.proofs.Rooted.{WellFormed-rooted}
use Rattle.p9_index.specs.Entries.{is_listed, number_at}
use Rattle.p9_index.specs.Tree.{IsIndex, server_of}
use Rattle.p9_index.proofs.Joined.{IsIndex-rooted}
use Rattle.p9_index.proofs.tree.IndexTreeTree.with_root.Goals as goal

pub invariant_of-result : goal.invariant_of-result
invariant_of-result g c =
    let entries : c.insert.new.self.entries ≡ (0, root_node) ∷ [] =
    c.in_ok-insert.ensures.entries
    ∙ ap (λ es. insert_entry nat_cmp es 0 c.in_ok-new.field-0) c.new-nodes.ensures.empty
    ∙ ap (λ (n : Node). (0, n) ∷ []) (c.in_ok-new.ensures ∙ c.root.ensures) in
    record {
      well_formed = subst (λ es. WellFormed (server_of es 1)) (sym entries) WellFormed-rooted;
      index =
          subst (λ es. IsIndex es (is_listed c.new-2.result) (number_at c.new-2.result)) (sym entries)
          (IsIndex-rooted c.new-2.result c.new-2.ensures);
    }

-- What a tree has to know of a node that may be changed as a wstat does.
use Rattle.std.proofs.Common.{◌≡◌, ℕ, List, Some, IsTrue, sym, ◌∙◌}
use Rattle.std.specs.Prelude.{IsSome}
use Rattle.std.specs.BTreeMap.{is_at}
use Rattle.std.specs.Map.{lookup, set_value, values_of}
use Rattle.std.specs.Option.{ForSome}
use Rattle.std.specs.Ordering.{nat_cmp}
use Rattle.p9_base.specs.Name.{is_name}
use Rattle.p9_index.specs.declared.entries.Entries.{Entries}
use Rattle.p9_index.specs.Entries.{is_listed, number_at}
use Rattle.p9_index.specs.Tree.{IsIndex, server_of}
use Rattle.p9_index.proofs.Changed.{well-changed}
use Rattle.p9_index.proofs.Nodes.{IsKeyed, node_at-values_of}
use Rattle.p9_tree.specs.declared.change.Change.{Change}
use Rattle.p9_tree.specs.Change.{CanChange, CanChangeNode, changed}
use Rattle.p9_tree.specs.Node.{IsTellable, Node}
use Rattle.p9_tree.specs.Server.{WellFormed, node_at}
use Rattle.p9_tree.proofs.Renewed.{apart-changed, keeps-changed, named, sound-changed}

module _ (es : List (ℕ × Node)) (next k : ℕ) (n : Node) (c : Change) (keyed : IsKeyed es)
    (well : WellFormed (server_of es next)) (found : Some n ≡ lookup (is_at (nat_cmp k)) es)
    (can : CanChange (server_of es next) k c) where
  pub at-key : node_at k (values_of es) ≡ Some n
  at-key = node_at-values_of k es keyed ∙ sym found

  pub can-node : CanChangeNode (server_of es next) n c
  can-node = can n at-key

  -- a node that gets a name isn't the root
  pub in-dir : ForSome c.name (λ name. IsSome n.parent)
  in-dir = named (server_of es next) k c n well can at-key

-- the tree is well-formed once it is changed
pub well-made : {Z : Type 0} (es fs : List (ℕ × Node)) (next k : ℕ) (s : Entries Z) (n w : Node)
    (c : Change) → IsIndex es (is_listed s) (number_at s) → WellFormed (server_of es next)
    → Some n ≡ lookup (is_at (nat_cmp k)) es → CanChange (server_of es next) k c
    → fs ≡ set_value (is_at (nat_cmp k)) es w → w ≡ changed c n
    → ForSome c.name (λ name. IsTrue (is_name name)) → IsTellable (changed c n)
    → WellFormed (server_of fs next)
well-made es fs next k s n w c index well found can written new valid told =
    well-changed es fs next k s (changed c) n w index well found written new (keeps-changed c)
    (sound-changed (server_of es next) n c (can-node es next k n c index.keyed well found can) valid
    (in-dir es next k n c index.keyed well found can) told)
    (apart-changed (server_of es next) k c well can)

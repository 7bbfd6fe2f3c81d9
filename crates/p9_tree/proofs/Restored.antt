-- A server whose next number is greater, and one to which a node is put back, are well-formed.
use Rattle.std.proofs.Common.{◌≡◌, ◌<◌, ◌≤◌, Option, Some, None, IsTrue, ap}
use Rattle.std.proofs.Common.{refl, subst, sym, arith, option_map, ℕ}
use Rattle.std.specs.Option.{ForSome, option_map_or}
use Rattle.std.proofs.lemmas.List.Elements.{All-weaker}
use Rattle.p9_base.specs.Name.{is_name}
use Rattle.p9_tree.specs.declared.node.Entry.{Entry}
use Rattle.p9_tree.specs.declared.saved.Saved.{Saved}
use Rattle.p9_tree.specs.Node.{IsTellable, Node, root_name}
use Rattle.p9_tree.specs.Saved.{CanPutBack, put_back, saved_node, skipped_to, with_fields}
use Rattle.p9_tree.specs.Server.{Server, WellFormed, added, next_max, with_changed}
use Rattle.p9_tree.proofs.Added.{WellFormed-added}

-- numbers are below a greater one
pub WellFormed-skipped_to : (next : ℕ) (s : Server) → s.next ≤ next → next ≤ next_max
    → WellFormed s → WellFormed (skipped_to next s)
WellFormed-skipped_to next s more few w = record {
  few = few;
  rising = w.rising;
  below =
      All-weaker (λ n. n.number < s.next) (λ n. n.number < next) (λ n h. omega arith) s.nodes
      w.below;
  sound = w.sound;
  root = w.root;
  only_root = w.only_root;
  parent_below = w.parent_below;
  parent_dir = w.parent_dir;
  siblings = w.siblings;
}

module _ (s : Server) (n : Node) (dir : ℕ) (w : WellFormed s) (can : CanPutBack s n)
    (parent : n.parent ≡ Some dir) where
  -- its number is left
  pub below_next_max : n.number < next_max
  below_next_max = (can.can_add dir parent).number_left

  -- the server with the node
  pub put_back-joined : added (skipped_to n.number s) n ≡ put_back n s
  put_back-joined =
      sym (ap (λ o. option_map_or (λ (dir : ℕ). added (skipped_to n.number s) n) o
      (with_changed 0 (with_fields n) s)) parent)

  pub WellFormed-put_back : IsTrue (is_name n.name) → IsTellable n
      → WellFormed (added (skipped_to n.number s) n)
  WellFormed-put_back name told =
      let few : n.number < next_max = below_next_max in
      let le : n.number ≤ next_max = omega arith in
      WellFormed-added (skipped_to n.number s) dir n
      (WellFormed-skipped_to n.number s (can.not_given dir parent) le w)
      (can.can_add dir parent) refl parent name told

-- where a saved node of a directory is
pub saved-parent : (saved : Saved) (e : Entry) → saved.entry ≡ Some e
    → (saved_node saved).parent ≡ Some e.parent
saved-parent saved e is = ap (option_map (λ (e : Entry). e.parent)) is

-- and that its name is valid
pub saved-name : (saved : Saved) (e : Entry) → saved.entry ≡ Some e
    → ForSome saved.entry (λ entry. IsTrue (is_name entry.name))
    → IsTrue (is_name (saved_node saved).name)
saved-name saved e is valid =
    subst (λ o. IsTrue (is_name (option_map_or (λ (e : Entry). e.name) o root_name))) (sym is)
    (valid e is)

-- the root that is saved
pub put_back-root : (saved : Saved) (s : Server) → saved.entry ≡ None
    → with_changed 0 (with_fields (saved_node saved)) s ≡ put_back (saved_node saved) s
put_back-root saved s none =
    sym (ap (λ (o : Option Entry). option_map_or
    (λ (dir : ℕ). added (skipped_to saved.number s) (saved_node saved))
    (option_map (λ (e : Entry). e.parent) o)
    (with_changed 0 (with_fields (saved_node saved)) s)) none)

-- A server of which a file or an empty directory is taken out is well-formed.
use Rattle.std.proofs.Common.{◌≡◌, ◌≢◌, ℕ, ◌<◌, true, false, cond, eqb, List, [], ◌∷◌, Some, None}
use Rattle.std.proofs.Common.{IsTrue, IsFalse, refl, sym, subst, arith, All, AllPairs}
use Rattle.std.specs.List.{position, remove}
use Rattle.std.proofs.lemmas.Bool.Decides.{nat_tests}
use Rattle.std.proofs.lemmas.List.Elements.{All-head, All-tail, All-cons}
use Rattle.std.proofs.lemmas.List.Quantifiers.{all_pairs_remove}
use Rattle.p9_tree.specs.Node.{Node, has_number}
use Rattle.p9_tree.specs.Server.{Server, node_at, is_dir_at, has_children, WellFormed, dropped_at}
use Rattle.p9_tree.specs.Server.{with_nodes, with_dropped}
use Rattle.p9_tree.proofs.Lookups.{node_at-before, position_within, remove-dropped_at, rising_head}
use Rattle.p9_tree.proofs.Lookups.{rising_tail}

All-dropped_at : (P : Node → Type 0) (k : ℕ) (xs : List Node) → All P xs → All P (dropped_at k xs)
All-dropped_at P k [] all = all
All-dropped_at P k (x ∷ xs) all =
    let here : P x = All-head P x xs all in
    let later : All P xs = All-tail P x xs all in
    elim (eqb x.number k) as
    (λ b. All P (cond b xs (x ∷ dropped_at k xs))) [
      | true ↦ later
      | false ↦ All-cons P x
          (dropped_at k xs) here (All-dropped_at P k xs later)
    ]

-- a look-up after the node is taken out
pub node_at-dropped_at : (k j : ℕ) (xs : List Node) → AllPairs (λ m n. m.number < n.number) xs
    → node_at j (dropped_at k xs) ≡ cond (eqb j k) None (node_at j xs)
node_at-dropped_at k j [] rising = grind (arith, nat_tests)
node_at-dropped_at k j (x ∷ xs) rising =
    let none_later : node_at x.number xs ≡ None =
    node_at-before x.number xs (rising_head x xs rising) in
    grind (arith, nat_tests, node_at-dropped_at k j xs (rising_tail x xs rising))

-- a directory without children is no node's parent
no_parent : (k j p : ℕ) (xs : List Node) (n : Node) → has_children k xs ≡ false
    → node_at j xs ≡ Some n → n.parent ≡ Some p → p ≢ k
no_parent k j p [] n none e in_p same = cc
no_parent k j p (x ∷ xs) n none e in_p same = grind (arith, nat_tests, no_parent k j p xs n)

module _ (s : Server) (k i : ℕ) (w : WellFormed s)
    (found : position (has_number k) s.nodes ≡ Some i) (not_root : k ≢ 0)
    (empty : IsFalse (has_children k s.nodes)) where
  stays : (j : ℕ) (n : Node) → node_at j (dropped_at k s.nodes) ≡ Some n
      → node_at j s.nodes ≡ Some n
  stays j n e = grind (arith, nat_tests, node_at-dropped_at k j s.nodes w.rising)

  dir_stays : (j : ℕ) → j ≢ k → IsTrue (is_dir_at j s.nodes)
      → IsTrue (is_dir_at j (dropped_at k s.nodes))
  dir_stays j other h = grind (arith, nat_tests, node_at-dropped_at k j s.nodes w.rising)

  rising_stays : AllPairs (λ m n. m.number < n.number) (dropped_at k s.nodes)
  rising_stays =
      subst (AllPairs (λ m n. m.number < n.number))
      (remove-dropped_at k s.nodes (remove s.nodes i) i found refl)
      (all_pairs_remove (λ m n. m.number < n.number) s.nodes i (position_within k s.nodes i found).1
      w.rising)

  pub WellFormed-dropped : WellFormed (with_dropped k s)
  WellFormed-dropped = record {
    few = w.few;
    rising = rising_stays;
    below = All-dropped_at (λ n. n.number < s.next) k s.nodes w.below;
    sound = λ j n e. w.sound j n (stays j n e);
    root = dir_stays 0 (λ e. not_root (sym e)) w.root;
    only_root = λ j n e. w.only_root j n (stays j n e);
    parent_below = λ j p n e. w.parent_below j p n (stays j n e);
    parent_dir =
        λ j p n e in_p. dir_stays p (no_parent k j p s.nodes n empty (stays j n e) in_p)
        (w.parent_dir j p n (stays j n e) in_p);
    siblings = λ i j p m n e1 e2. w.siblings i j p m n (stays i m e1) (stays j n e2);
  }

  pub WellFormed-remove : WellFormed (with_nodes s (remove s.nodes i))
  WellFormed-remove =
      rw (remove-dropped_at k s.nodes (remove s.nodes i) i found refl) WellFormed-dropped

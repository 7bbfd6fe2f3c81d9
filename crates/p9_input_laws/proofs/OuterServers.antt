-- A server without what is inside its hidden directories is well-formed, and nothing is inside.
use Rattle.std.proofs.Common.{◌≡◌, ℕ, ◌<◌, Bool, true, false, not, List, Option, Some, None, refl}
use Rattle.std.proofs.Common.{sym, ◌∙◌, arith}
use Rattle.std.specs.Prelude.{if◌then◌else◌}
use Rattle.std.specs.Option.{option_map_or}
use Rattle.std.proofs.lemmas.Bool.{or_parts}
use Rattle.std.proofs.lemmas.List.Elements.{All-filter}
use Rattle.std.proofs.lemmas.List.Kept.{AllPairs-filter}
use Rattle.p9_tree.specs.Node.{Node}
use Rattle.p9_tree.specs.Server.{Server, WellFormed, node_at}
use Rattle.p9_tree.specs.Inside.{IsInside, Child, Deeper, barred_from, is_among, is_inner}
use Rattle.p9_tree.specs.Inside.{is_inside_at, outer_nodes, outer_server}
use Rattle.p9_inside.proofs.Chain.{inside_chain, ordered}
use Rattle.p9_inside.proofs.Facts.{clash, not_some, not_true}
use Rattle.p9_inside.proofs.Outer.{server_keeps_dir_test, split_ordered}
use Rattle.p9_inside.proofs.Pass.{IsOrdered, barred-is_among}

module _ (hidden : List ℕ) (s : Server) (w : WellFormed s) where
  abbrev others : List Node
  others = outer_nodes hidden s.nodes

  in_order : IsOrdered s.nodes
  in_order = ordered s w

  -- a node that is left was there, and is not inside
  was : (k : ℕ) (n : Node) → node_at k others ≡ Some n
      → (is_inside_at k hidden s.nodes ≡ false) × (node_at k s.nodes ≡ Some n)
  was k n e = go (is_inside_at k hidden s.nodes) refl
    where
      is : (if is_inside_at k hidden s.nodes then None else node_at k s.nodes) ≡ Some n
      is = sym (split_ordered hidden s.nodes k in_order).others ∙ e

      go : (b : Bool) → is_inside_at k hidden s.nodes ≡ b
          → (is_inside_at k hidden s.nodes ≡ false) × (node_at k s.nodes ≡ Some n)
      go true t = let no : None ≡ Some n = rw t at is in not_some n no
      go false t = (t, rw t at is)

  -- its parent is not inside either
  parent_outside : (k p : ℕ) (n : Node) → is_inside_at k hidden s.nodes ≡ false
      → node_at k s.nodes ≡ Some n → n.parent ≡ Some p → is_inside_at p hidden s.nodes ≡ false
  parent_outside k p n out e in_p =
      let here : is_inside_at k hidden s.nodes ≡ is_among (barred_from hidden s.nodes) p =
      rw e (rw in_p refl) in
      (or_parts (is_among hidden p) (is_inside_at p hidden s.nodes)
      (sym (barred-is_among hidden s.nodes p in_order) ∙ sym here ∙ out)).1

  -- the root is not inside
  root_outside : is_inside_at 0 hidden s.nodes ≡ false
  root_outside = go (node_at 0 s.nodes) refl
    where
      up : (n : Node) → node_at 0 s.nodes ≡ Some n → (p : Option ℕ) → n.parent ≡ p
          → option_map_or (λ parent. is_among (barred_from hidden s.nodes) parent) p false ≡ false
      up n e None in_p = refl
      up n e (Some p) in_p = absurd (let low = w.parent_below 0 p n e in_p in omega arith)

      go : (o : Option Node) → node_at 0 s.nodes ≡ o
          → option_map_or (is_inner (barred_from hidden s.nodes)) o false ≡ false
      go None e = refl
      go (Some n) e = up n e n.parent refl

  pub WellFormed-outer : WellFormed (outer_server hidden s)
  WellFormed-outer = record {
    few = w.few;
    rising =
        AllPairs-filter (λ m n. m.number < n.number)
        (λ n. not (is_inner (barred_from hidden s.nodes) n)) s.nodes w.rising;
    below =
        All-filter (λ n. not (is_inner (barred_from hidden s.nodes) n)) (λ n. n.number < s.next)
        s.nodes w.below;
    sound = λ k n e. w.sound k n (was k n e).1;
    root = server_keeps_dir_test hidden s 0 root_outside ∙ w.root;
    only_root = λ k n e. w.only_root k n (was k n e).1;
    parent_below = λ k p n e. w.parent_below k p n (was k n e).1;
    parent_dir = λ k p n e in_p.
        let before = was k n e in
        server_keeps_dir_test hidden s p (parent_outside k p n before.0 before.1 in_p)
        ∙ w.parent_dir k p n before.1 in_p;
    siblings = λ j k p m n e f. w.siblings j k p m n (was j m e).1 (was k n f).1;
  }

  -- a chain of parents that is left was there, and its node is not inside
  chain_was : (h k : ℕ) → IsInside others h k → IsInside s.nodes h k
  chain_was h _ (Child k n e in_h) = Child k n (was k n e).1 in_h
  chain_was h _ (Deeper k p n e in_p up) = Deeper k p n (was k n e).1 in_p (chain_was h p up)

  chain_outside : (h k : ℕ) → IsInside others h k → is_inside_at k hidden s.nodes ≡ false
  chain_outside h _ (Child k n e in_h) = (was k n e).0
  chain_outside h _ (Deeper k p n e in_p up) = (was k n e).0

  pub none_inside : (k : ℕ) → is_inside_at k hidden others ≡ false
  none_inside k =
      not_true (is_inside_at k hidden others)
      (λ t.
      let chain =
      (inside_chain hidden others (ordered (outer_server hidden s) WellFormed-outer) k).0 t in
      clash (is_inside_at k hidden s.nodes)
      ((inside_chain hidden s.nodes in_order k).1
      (chain.0, chain.1, chain_was chain.0 k chain.2))
      (chain_outside chain.0 k chain.2))

-- What one pass over a server's nodes gathers.
use Rattle.std.proofs.Common.{◌≡◌, ℕ, ◌<◌, ◌≤◌, Bool, true, false, eqb, ◌&&◌, ◌||◌, List, []}
use Rattle.std.proofs.Common.{◌∷◌, Option, Some, None, refl, arith, AllPairs}
use Rattle.std.specs.Option.{option_map_or}
use Rattle.std.proofs.lemmas.Bool.Decides.{nat_tests}
use Rattle.std.proofs.lemmas.List.Elements.{All-weaker}
use Rattle.p9_tree.specs.Node.{Node}
use Rattle.p9_tree.specs.Server.{node_at}
use Rattle.p9_tree.proofs.Lookups.{node_at-before, node_at-later, rising_head, rising_tail}
use Rattle.p9_tree.specs.Inside.{is_among, is_inner, grown_by, barred_from, is_inside_at}

-- numbers rise, and parents have smaller ones than their children
pub record IsOrdered (nodes : List Node) : Type 0 where
  pub rising : AllPairs (λ m n. m.number < n.number) nodes
  pub parents : (k p : ℕ) (n : Node) → node_at k nodes ≡ Some n → n.parent ≡ Some p → p < k

module _ (x : Node) (xs : List Node) (o : IsOrdered (x ∷ xs)) where
  pub tail_ordered : IsOrdered xs
  tail_ordered = record {
    rising = rising_tail x xs o.rising;
    parents =
        λ k p n e in_p. o.parents k p n (node_at-later x xs (rising_head x xs o.rising) k n e) in_p;
  }

  -- its own parent is below
  head_parent : (p : ℕ) → x.parent ≡ Some p → p < x.number
  head_parent p in_p = o.parents x.number p x (grind (arith, nat_tests)) in_p

  -- no other node has a number up to the first
  pub no_later : (j : ℕ) → j ≤ x.number → node_at j xs ≡ None
  no_later j le =
      node_at-before j xs
      (All-weaker (λ n. x.number < n.number) (λ n. j < n.number) (λ n lt. omega arith) xs
      (rising_head x xs o.rising))

-- the pass gathers no number but those of nodes
pub barred-absent : (ks : List ℕ) (xs : List Node) (k : ℕ) → node_at k xs ≡ None
    → is_among (barred_from ks xs) k ≡ is_among ks k
barred-absent ks [] k none = refl
barred-absent ks (x ∷ xs) k none = grind (arith, nat_tests, barred-absent (grown_by ks x) xs k)

-- whether the first node is inside is known when the pass comes to it
inner-head : (ks : List ℕ) (x : Node) (xs : List Node) → IsOrdered (x ∷ xs)
    → is_inner (barred_from ks (x ∷ xs)) x ≡ is_inner ks x
inner-head ks x xs o = go x.parent refl
  where
    go : (q : Option ℕ) → x.parent ≡ q
        → option_map_or (λ p. is_among (barred_from ks (x ∷ xs)) p) q false
        ≡ option_map_or (λ p. is_among ks p) q false
    go None e = refl
    go (Some p) e =
        let low : p < x.number = head_parent x xs o p e in
        let none : node_at p xs ≡ None = no_later x xs o p (omega arith) in
        barred-absent ks (x ∷ xs) p (grind (arith, nat_tests))

-- the pass gathers the node's number if it is inside
grown-is_among : (ks : List ℕ) (x : Node) (k : ℕ)
    → is_among (grown_by ks x) k ≡ ((eqb x.number k && is_inner ks x) || is_among ks k)
grown-is_among ks x k = grind (arith, nat_tests)

-- the pass gathers the given numbers, and those of nodes inside
pub barred-is_among : (ks : List ℕ) (xs : List Node) (k : ℕ) → IsOrdered xs
    → is_among (barred_from ks xs) k ≡ (is_among ks k || is_inside_at k ks xs)
barred-is_among ks [] k o = grind arith
barred-is_among ks (x ∷ xs) k o =
    go (eqb x.number k) refl (barred-is_among (grown_by ks x) xs k (tail_ordered x xs o))
  where
    go : (b : Bool) → eqb x.number k ≡ b
        → is_among (barred_from ks (x ∷ xs)) k
        ≡ (is_among (grown_by ks x) k || is_inside_at k (grown_by ks x) xs)
        → is_among (barred_from ks (x ∷ xs)) k ≡ (is_among ks k || is_inside_at k ks (x ∷ xs))
    go true e later =
        let none : node_at k xs ≡ None = no_later x xs o k (grind (arith, nat_tests)) in
        let here : is_inner (barred_from ks (x ∷ xs)) x ≡ is_inner ks x = inner-head ks x xs o in
        grind (arith, grown-is_among ks x k)
    go false e later = grind (arith, grown-is_among ks x k)

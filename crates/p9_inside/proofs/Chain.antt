-- A node is inside exactly where a hidden number is in its chain of parents.
use Rattle.std.proofs.Common.{◌≡◌, ◌≢◌, ℕ, zero, suc, ◌<◌, Bool, true, false, not, ◌||◌, List, []}
use Rattle.std.proofs.Common.{◌∷◌, Option, Some, None, IsTrue, refl, sym, ap, ◌∙◌, arith, inl, inr}
use Rattle.std.proofs.Common.{◌⊎◌, ◌↔◌, All}
use Rattle.std.specs.Prelude.{filter}
use Rattle.std.proofs.lemmas.List.Elements.{All-head, All-tail, All-weaker}
use Rattle.std.specs.Option.{option_map_or}
use Rattle.p9_tree.specs.Node.{Node}
use Rattle.p9_tree.specs.Server.{Server, WellFormed, node_at}
use Rattle.p9_tree.proofs.Lookups.{each_found}
use Rattle.p9_tree.specs.Inside.{IsInside, Child, Deeper, IsInsideAny, is_among, is_inner}
use Rattle.p9_tree.specs.Inside.{barred_from, is_barred_at, is_inside_at}
use Rattle.p9_inside.specs.Meaning.{NothingInsideItself, ServerPassIsChain}
use Rattle.p9_inside.specs.Meaning.{ServerBarredIsHiddenOrInside, ServerOnlyNodesHide}
use Rattle.p9_inside.proofs.Pass.{IsOrdered, barred-is_among}

-- a well-formed server's nodes are ordered
pub ordered : (s : Server) → WellFormed s → IsOrdered s.nodes
ordered s w = record { rising = w.rising; parents = w.parent_below }

-- one of the two holds
or_cases : (a b : Bool) → (a || b) ≡ true → (a ≡ true) ⊎ (b ≡ true)
or_cases a b h = grind arith

-- the node of the number has a parent, which is hidden or inside
record HasBarredParent (hidden : List ℕ) (nodes : List Node) (k : ℕ) : Type 0 where
  node : Node
  parent : ℕ
  found : node_at k nodes ≡ Some node
  stands : node.parent ≡ Some parent
  barred : is_barred_at parent hidden nodes ≡ true

module _ (hidden : List ℕ) (nodes : List Node) (o : IsOrdered nodes) where
  -- a node is inside exactly where its parent is barred
  inside-child : (k p : ℕ) (n : Node) → node_at k nodes ≡ Some n → n.parent ≡ Some p
      → is_inside_at k hidden nodes ≡ is_among (barred_from hidden nodes) p
  inside-child k p n e in_p = rw e (rw in_p refl)

  -- a node inside has a parent that is barred
  inside_parent : (k : ℕ) → is_inside_at k hidden nodes ≡ true → HasBarredParent hidden nodes k
  inside_parent k i = go (node_at k nodes) refl i
    where
      go : (q : Option Node) → node_at k nodes ≡ q
          → option_map_or (is_inner (barred_from hidden nodes)) q false ≡ true
          → HasBarredParent hidden nodes k
      go None e t = absurd (cc)
      go (Some n) e t = up n.parent refl t
        where
          up : (q : Option ℕ) → n.parent ≡ q
              → option_map_or (λ p. is_barred_at p hidden nodes) q false ≡ true
              → HasBarredParent hidden nodes k
          up None w t = absurd (cc)
          up (Some p) w t = record { node = n; parent = p; found = e; stands = w; barred = t }

  -- the chain of a node inside, up to a hidden directory
  chain_from : (bound k : ℕ) → k < bound → is_inside_at k hidden nodes ≡ true
      → IsInsideAny hidden nodes k
  chain_from zero k low i = absurd (omega arith)
  chain_from (suc bound) k low i = go (inside_parent k i) (λ q m j. chain_from bound q m j)
    where
      go : HasBarredParent hidden nodes k
          → ((q : ℕ) → q < bound → is_inside_at q hidden nodes ≡ true → IsInsideAny hidden nodes q)
          → IsInsideAny hidden nodes k
      go up ih =
          split (or_cases _ _ (sym (barred-is_among hidden nodes up.parent o) ∙ up.barred))
        where
          below : up.parent < k
          below = o.parents k up.parent up.node up.found up.stands

          further : IsInsideAny hidden nodes up.parent → IsInsideAny hidden nodes k
          further c = (c.0, c.1, Deeper k up.parent up.node up.found up.stands c.2)

          split : (is_among hidden up.parent ≡ true) ⊎ (is_inside_at up.parent hidden nodes ≡ true)
              → IsInsideAny hidden nodes k
          split (inl a) = (up.parent, a, Child k up.node up.found up.stands)
          split (inr b) = further (ih up.parent (omega (arith, below)) b)

  -- a node below a hidden directory is inside
  inside_from_chain : (h k : ℕ) → IsTrue (is_among hidden h) → IsInside nodes h k
      → is_inside_at k hidden nodes ≡ true
  inside_from_chain h _ hid (Child k n e in_h) =
      inside-child k h n e in_h ∙ barred-is_among hidden nodes h o ∙ grind arith
  inside_from_chain h _ hid (Deeper k p n e in_p up) =
      let i : is_inside_at p hidden nodes ≡ true = inside_from_chain h p hid up in
      inside-child k p n e in_p ∙ barred-is_among hidden nodes p o ∙ grind arith

  -- the pass is the chain
  pub inside_chain : (k : ℕ) → IsTrue (is_inside_at k hidden nodes) ↔ IsInsideAny hidden nodes k
  inside_chain k = (chain_from (suc k) k (omega arith), λ c. inside_from_chain c.0 k c.1 c.2)

-- tests that pass together are equal
same_tests : (a b : Bool) → (a ≡ true → b ≡ true) → (b ≡ true → a ≡ true) → a ≡ b
same_tests true b f g = sym (f refl)
same_tests false true f g = g refl
same_tests false false f g = refl

-- tests that agree at each element keep the same
filter_agree_each : (p q : Node → Bool) (xs : List Node) → All (λ x. p x ≡ q x) xs
    → filter p xs ≡ filter q xs
filter_agree_each p q [] h = refl
filter_agree_each p q (x ∷ xs) h =
    let here : p x ≡ q x = All-head (λ x. p x ≡ q x) x xs h in
    grind (arith, filter_agree_each p q xs (All-tail (λ x. p x ≡ q x) x xs h))

module _ (hidden other : List ℕ) (s : Server) (w : WellFormed s)
    (agree : (k : ℕ) → node_at k s.nodes ≢ None → is_among other k ≡ is_among hidden k) where
  -- a node's parent exists
  parent_exists : (k p : ℕ) (n : Node) → node_at k s.nodes ≡ Some n → n.parent ≡ Some p
      → node_at p s.nodes ≢ None
  parent_exists k p n e in_p none =
      let dir = w.parent_dir k p n e in_p in let gone = rw none at dir in cc

  -- what is in a chain of parents exists
  chain_exists : (h k : ℕ) → IsInside s.nodes h k → node_at h s.nodes ≢ None
  chain_exists h _ (Child k n e in_h) = parent_exists k h n e in_h
  chain_exists h _ (Deeper k p n e in_p up) = chain_exists h p up

  -- by either list the same nodes are inside
  inside-other : (k : ℕ) → is_inside_at k other s.nodes ≡ is_inside_at k hidden s.nodes
  inside-other k = same_tests _ _
      (λ i. let c = (inside_chain other s.nodes (ordered s w) k).0 i in
      (inside_chain hidden s.nodes (ordered s w) k).1
      (c.0, sym (agree c.0 (chain_exists c.0 k c.2)) ∙ c.1, c.2))
      (λ i. let c = (inside_chain hidden s.nodes (ordered s w) k).0 i in
      (inside_chain other s.nodes (ordered s w) k).1
      (c.0, agree c.0 (chain_exists c.0 k c.2) ∙ c.1, c.2))

  -- so the pass finds the same
  inner-other : (n : Node) → node_at n.number s.nodes ≡ Some n
      → is_inner (barred_from other s.nodes) n ≡ is_inner (barred_from hidden s.nodes) n
  inner-other n e = rw e at (inside-other n.number)

  -- at each node
  each_inner : All
      (λ n. is_inner (barred_from other s.nodes) n ≡ is_inner (barred_from hidden s.nodes) n)
      s.nodes
  each_inner =
      All-weaker (λ n. node_at n.number s.nodes ≡ Some n)
      (λ n. is_inner (barred_from other s.nodes) n ≡ is_inner (barred_from hidden s.nodes) n)
      inner-other s.nodes (each_found s.nodes w.rising)

pub server_only_nodes_hide : ServerOnlyNodesHide
server_only_nodes_hide hidden other s w agree =
    let same : All
    (λ n. is_inner (barred_from other s.nodes) n ≡ is_inner (barred_from hidden s.nodes) n)
    s.nodes
    = each_inner hidden other s w agree in
    record {
      insides = filter_agree_each _ _ s.nodes same;
      others =
          filter_agree_each _ _ s.nodes
          (All-weaker _
          (λ n. not (is_inner (barred_from other s.nodes) n)
          ≡ not (is_inner (barred_from hidden s.nodes) n)) (λ n e. ap not e) s.nodes same);
    }

pub nothing_inside_itself : NothingInsideItself
nothing_inside_itself s h _ w (Child k n e in_h) = w.parent_below k h n e in_h
nothing_inside_itself s h _ w (Deeper k p n e in_p up) =
    let higher : h < p = nothing_inside_itself s h p w up in
    let high : p < k = w.parent_below k p n e in_p in
    omega arith

pub server_pass_is_chain : ServerPassIsChain
server_pass_is_chain hidden s k w = inside_chain hidden s.nodes (ordered s w) k

pub server_barred_is_hidden_or_inside : ServerBarredIsHiddenOrInside
server_barred_is_hidden_or_inside hidden s k w = barred-is_among hidden s.nodes k (ordered s w)

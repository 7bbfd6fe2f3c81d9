-- Look-ups in a server without its insides.
use Rattle.std.proofs.Common.{◌≡◌, ℕ, Bool, true, false, eqb, not, ◌&&◌, List, [], ◌∷◌, Option}
use Rattle.std.proofs.Common.{Some, None, IsFalse, refl, sym, ap, subst, ◌∙◌, arith}
use Rattle.std.specs.Prelude.{filter, find, is_some, ◌==◌}
use Rattle.std.specs.Option.{option_map_or}
use Rattle.std.proofs.lemmas.Bool.Decides.{nat_tests}
use Rattle.p9_tree.specs.Node.{Node, has_number, is_in, is_child, is_above, is_dir}
use Rattle.p9_tree.specs.Server.{Server, node_at}
use Rattle.p9_tree.specs.Inside.{is_among, is_inner, barred_from, is_inside_at, inner_nodes}
use Rattle.p9_tree.specs.Inside.{outer_nodes}
use Rattle.p9_inside.specs.Meaning.{IsSplit, ServerInsidesAreSplit}
use Rattle.p9_inside.proofs.Pass.{IsOrdered, no_later, tail_ordered}
use Rattle.p9_inside.specs.Lookups.{ServerKeepsNode, ServerKeepsDirTest, ServerKeepsBytes}
use Rattle.p9_inside.specs.Lookups.{ServerKeepsChild, ServerKeepsChildAfter, ServerKeepsChildren}
use Rattle.p9_inside.specs.Lookups.{SameChildren}

-- a filter that keeps what is found changes nothing in the finding
find-filter : {X : Type 0} (p q : X → Bool) (xs : List X)
    → ((x : X) → find p xs ≡ Some x → q x ≡ true) → find p (filter q xs) ≡ find p xs
find-filter p q [] h = refl
find-filter p q (x ∷ xs) h = grind (arith, find-filter p q xs, h)

-- a filter that keeps whatever passes
find-filter_all : {X : Type 0} (p q : X → Bool) (xs : List X)
    → ((x : X) → p x ≡ true → q x ≡ true) → find p (filter q xs) ≡ find p xs
find-filter_all p q [] h = refl
find-filter_all p q (x ∷ xs) h = grind (arith, find-filter_all p q xs h, h)

-- a second filter that keeps whatever passes the first
filter-filter_all : {X : Type 0} (p q : X → Bool) (xs : List X)
    → ((x : X) → p x ≡ true → q x ≡ true) → filter p (filter q xs) ≡ filter p xs
filter-filter_all p q [] h = refl
filter-filter_all p q (x ∷ xs) h = grind (arith, filter-filter_all p q xs h, h)

-- a child of a directory that is not barred is not inside
child_outer : (barred : List ℕ) (dir : ℕ) (n : Node) → IsFalse (is_among barred dir)
    → is_in dir n ≡ true → not (is_inner barred n) ≡ true
child_outer barred dir n out here = go n.parent here
  where
    go : (p : Option ℕ) → option_map_or (λ parent. parent == dir) p false ≡ true
        → not (option_map_or (λ parent. is_among barred parent) p false) ≡ true
    go None h = refl
    go (Some p) h = let same : p ≡ dir = grind (arith, nat_tests) in rw same (ap not out)

pub server_keeps_node : ServerKeepsNode
server_keeps_node hidden s k out =
    find-filter (has_number k) (λ n. not (is_inner (barred_from hidden s.nodes) n)) s.nodes
    (λ n e. let kept = rw e at out in ap not kept)

pub server_keeps_dir_test : ServerKeepsDirTest
server_keeps_dir_test hidden s k out =
    ap (λ o. option_map_or is_dir o false) (server_keeps_node hidden s k out)

pub server_keeps_bytes : ServerKeepsBytes
server_keeps_bytes hidden s k out =
    ap (λ o. option_map_or (λ n. n.bytes) o []) (server_keeps_node hidden s k out)

-- the first of two that hold
and_left : (a b : Bool) → (a && b) ≡ true → a ≡ true
and_left a b h = grind arith

module _ (hidden : List ℕ) (s : Server) (dir : ℕ)
    (out : IsFalse (is_among (barred_from hidden s.nodes) dir)) where
  -- whatever asks only for children of the directory is answered alike
  keeps_children : (p : Node → Bool) → ((n : Node) → p n ≡ true → is_in dir n ≡ true)
      → find p (outer_nodes hidden s.nodes) ≡ find p s.nodes
  keeps_children p in_dir =
      find-filter_all p _ s.nodes (λ n t. child_outer _ dir n out (in_dir n t))

  -- all children, and whether there are any
  keeps_all : SameChildren dir s.nodes (outer_nodes hidden s.nodes)
  keeps_all = record {
    all = filter-filter_all (is_in dir) _ s.nodes (λ n t. child_outer _ dir n out t);
    some =
        ap is_some
        (keeps_children (λ n. is_in dir n && is_above None n)
        (λ n t. and_left (is_in dir n) _ t));
  }

pub server_keeps_child : ServerKeepsChild
server_keeps_child hidden s dir name out =
    keeps_children hidden s dir out (is_child dir name) (λ n t. and_left (is_in dir n) _ t)

pub server_keeps_child_after : ServerKeepsChildAfter
server_keeps_child_after hidden s dir floor out =
    keeps_children hidden s dir out (λ n. is_in dir n && is_above floor n)
    (λ n t. and_left (is_in dir n) _ t)

pub server_keeps_children : ServerKeepsChildren
server_keeps_children = keeps_all

-- what is not found is not found in a part
find-filter_none : {X : Type 0} (p q : X → Bool) (xs : List X) → find p xs ≡ None
    → find p (filter q xs) ≡ None
find-filter_none p q [] none = refl
find-filter_none p q (x ∷ xs) none = grind (arith, find-filter_none p q xs)

-- a filter that leaves out the only node of a number
node_at-filter_out : (q : Node → Bool) (k : ℕ) (xs : List Node) (n : Node) → IsOrdered xs
    → node_at k xs ≡ Some n → q n ≡ false → node_at k (filter q xs) ≡ None
node_at-filter_out q k [] n o e out = refl
node_at-filter_out q k (x ∷ xs) n o e out =
    go (eqb x.number k) refl (node_at-filter_out q k xs n (tail_ordered x xs o))
  where
    go : (b : Bool) → eqb x.number k ≡ b
        → (node_at k xs ≡ Some n → q n ≡ false → node_at k (filter q xs) ≡ None)
        → node_at k (filter q (x ∷ xs)) ≡ None
    go true t ih =
        let same : x ≡ n = (let found : Some x ≡ Some n = rw t at e in cc) in
        let here : q x ≡ false = rw same out in
        rw here
        (find-filter_none (has_number k) q xs (no_later x xs o k (grind (arith, nat_tests))))
    go false t ih =
        let rest : node_at k (filter q xs) ≡ None = ih (rw t at e) out in
        grind arith

-- a node that exists is in one of the two
split_found : (hidden : List ℕ) (nodes : List Node) (k : ℕ) (n : Node) → IsOrdered nodes
    → node_at k nodes ≡ Some n → (b : Bool) → is_inner (barred_from hidden nodes) n ≡ b
    → IsSplit k b nodes (inner_nodes hidden nodes) (outer_nodes hidden nodes)
split_found hidden nodes k n o e true t = record {
  insides =
      find-filter (has_number k) (is_inner (barred_from hidden nodes)) nodes
      (λ m found. let same : n ≡ m = cc in rw (← same) t);
  others =
      node_at-filter_out (λ m. not (is_inner (barred_from hidden nodes) m)) k nodes n o e
      (ap not t);
}
split_found hidden nodes k n o e false t = record {
  insides = node_at-filter_out (is_inner (barred_from hidden nodes)) k nodes n o e t;
  others =
      find-filter (has_number k) (λ m. not (is_inner (barred_from hidden nodes) m)) nodes
      (λ m found. let same : n ≡ m = cc in rw (← same) (ap not t));
}

-- the insides and the others, where numbers rise
pub split_ordered : (hidden : List ℕ) (nodes : List Node) (k : ℕ) → IsOrdered nodes
    → IsSplit k (is_inside_at k hidden nodes) nodes (inner_nodes hidden nodes)
    (outer_nodes hidden nodes)
split_ordered hidden nodes k o = go (node_at k nodes) refl
  where
    inside_is : (found : Option Node) → node_at k nodes ≡ found
        → is_inside_at k hidden nodes
        ≡ option_map_or (is_inner (barred_from hidden nodes)) found false
    inside_is found e = ap (λ q. option_map_or (is_inner (barred_from hidden nodes)) q false) e

    go : (found : Option Node) → node_at k nodes ≡ found
        → IsSplit k (is_inside_at k hidden nodes) nodes (inner_nodes hidden nodes)
        (outer_nodes hidden nodes)
    go None e =
        subst (λ b. IsSplit k b nodes (inner_nodes hidden nodes) (outer_nodes hidden nodes))
        (sym (inside_is None e))
        (record {
          insides = find-filter_none (has_number k) _ nodes e;
          others = find-filter_none (has_number k) _ nodes e ∙ sym e;
        })
    go (Some n) e =
        subst (λ b. IsSplit k b nodes (inner_nodes hidden nodes) (outer_nodes hidden nodes))
        (sym (inside_is (Some n) e))
        (split_found hidden nodes k n o e (is_inner (barred_from hidden nodes) n) refl)

pub server_insides_are_split : ServerInsidesAreSplit
server_insides_are_split hidden s k w =
    split_ordered hidden s.nodes k (record { rising = w.rising; parents = w.parent_below })

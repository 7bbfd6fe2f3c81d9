-- Changes of a server outside its insides.
use Rattle.std.proofs.Common.{◌≡◌, ℕ, ◌+◌, ◌<◌, Bool, true, false, not, cond, eqb, List, [], ◌∷◌}
use Rattle.std.proofs.Common.{◌++◌, Option, Some, None, IsTrue, IsFalse, refl, sym, ap, ◌∙◌}
use Rattle.std.proofs.Common.{append-nil, arith, All}
use Rattle.std.specs.Prelude.{filter}
use Rattle.std.specs.Option.{option_map_or}
use Rattle.std.proofs.lemmas.Bool.Decides.{nat_tests}
use Rattle.std.proofs.lemmas.List.Elements.{All-head, All-tail, filter-append}
use Rattle.p9_tree.specs.Node.{Node}
use Rattle.p9_tree.specs.Server.{Server, node_at, changed_at, dropped_at, with_dropped, with_nodes}
use Rattle.p9_tree.proofs.Lookups.{node_at-past}
use Rattle.p9_tree.specs.Inside.{is_among, is_inner, grown_by, barred_from, is_inside_at}
use Rattle.p9_inside.specs.Changes.{KeepsParent, ServerSpares, ServerChangeSpares, ServerDropSpares}
use Rattle.p9_inside.specs.Changes.{ServerAddSpares, ServerParentDecides, ServerNextIsFree}
use Rattle.p9_inside.proofs.Pass.{IsOrdered, tail_ordered, no_later, barred-is_among}
use Rattle.p9_inside.proofs.Chain.{ordered}

-- a test that can't pass fails
not_true : (b : Bool) → (b ≡ true → ⊥) → b ≡ false
not_true true no_way = absurd (no_way refl)
not_true false no_way = refl

-- Changed.

module _ (k : ℕ) (f : Node → Node) (keeps : KeepsParent f) where
  -- the change doesn't move it inside or out
  inner-changed : (ks : List ℕ) (n : Node) → is_inner ks (f n) ≡ is_inner ks n
  inner-changed ks n = ap (λ p. option_map_or (is_among ks) p false) (keeps.parent n)

  -- the pass comes to it as before
  grown-changed : (ks : List ℕ) (n : Node) → grown_by ks (f n) ≡ grown_by ks n
  grown-changed ks n = rw (inner-changed ks n, keeps.number n) refl

  -- the pass gathers what it did
  barred-changed_at : (ks : List ℕ) (xs : List Node)
      → barred_from ks (changed_at k f xs) ≡ barred_from ks xs
  barred-changed_at ks [] = refl
  barred-changed_at ks (x ∷ xs) =
      grind (arith, grown-changed ks x, barred-changed_at (grown_by ks x) xs)

  -- a filter that keeps the node that is changed
  filter-changed_at : (p : Node → Bool) → ((n : Node) → p (f n) ≡ p n) → (xs : List Node)
      → ((n : Node) → node_at k xs ≡ Some n → p n ≡ true)
      → filter p (changed_at k f xs) ≡ changed_at k f (filter p xs)
  filter-changed_at p same [] kept = refl
  filter-changed_at p same (x ∷ xs) kept = go (eqb x.number k) refl (filter-changed_at p same xs)
    where
      go : (b : Bool) → eqb x.number k ≡ b
          → (((n : Node) → node_at k xs ≡ Some n → p n ≡ true)
          → filter p (changed_at k f xs) ≡ changed_at k f (filter p xs))
          → filter p (changed_at k f (x ∷ xs)) ≡ changed_at k f (filter p (x ∷ xs))
      go true e ih =
          let here : p x ≡ true = kept x (rw e refl) in
          let there : p (f x) ≡ true = same x ∙ here in
          rw (e, here) (rw (e, there) refl)
      go false e ih =
          let rest : filter p (changed_at k f xs) ≡ changed_at k f (filter p xs)
          = ih (λ n found. kept n (rw e found)) in
          grind arith

  -- a filter that leaves it out
  filter-changed_out : (p : Node → Bool) → ((n : Node) → p (f n) ≡ p n) → (xs : List Node)
      → ((n : Node) → node_at k xs ≡ Some n → p n ≡ false)
      → filter p (changed_at k f xs) ≡ filter p xs
  filter-changed_out p same [] out = refl
  filter-changed_out p same (x ∷ xs) out = go (eqb x.number k) refl (filter-changed_out p same xs)
    where
      go : (b : Bool) → eqb x.number k ≡ b
          → (((n : Node) → node_at k xs ≡ Some n → p n ≡ false)
          → filter p (changed_at k f xs) ≡ filter p xs)
          → filter p (changed_at k f (x ∷ xs)) ≡ filter p (x ∷ xs)
      go true e ih =
          let here : p x ≡ false = out x (rw e refl) in
          let there : p (f x) ≡ false = same x ∙ here in
          rw (e, here) (rw there refl)
      go false e ih =
          let rest : filter p (changed_at k f xs) ≡ filter p xs
          = ih (λ n found. out n (rw e found)) in
          grind arith

  -- what is asked of the node of a number, if the change doesn't touch it
  asked-changed_at : (p : Node → Bool) → ((n : Node) → p (f n) ≡ p n) → (j : ℕ) (xs : List Node)
      → option_map_or p (node_at j (changed_at k f xs)) false ≡ option_map_or p (node_at j xs) false
  asked-changed_at p same j [] = refl
  asked-changed_at p same j (x ∷ xs) =
      grind (arith, same x, keeps.number x, asked-changed_at p same j xs)

-- the node of a number that is not inside
not_inside : (k : ℕ) (hidden : List ℕ) (xs : List Node) → IsFalse (is_inside_at k hidden xs)
    → (n : Node) → node_at k xs ≡ Some n → is_inner (barred_from hidden xs) n ≡ false
not_inside k hidden xs out n e = rw e at out

pub server_change_spares : ServerChangeSpares
server_change_spares hidden s k f keeps out =
    let barred : barred_from hidden (changed_at k f s.nodes) ≡ barred_from hidden s.nodes
    = barred-changed_at k f keeps hidden s.nodes in
    let same : (n : Node)
    → is_inner (barred_from hidden s.nodes) (f n) ≡ is_inner (barred_from hidden s.nodes) n
    = inner-changed k f keeps (barred_from hidden s.nodes) in
    record {
      commutes =
          ap (λ ns. with_nodes s ns)
          (ap (λ b. filter (λ n. not (is_inner b n)) (changed_at k f s.nodes)) barred
          ∙ filter-changed_at k f keeps (λ n. not (is_inner (barred_from hidden s.nodes) n))
          (λ n. ap not (same n)) s.nodes
          (λ n found. ap not (not_inside k hidden s.nodes out n found)));
      insides = ap (λ b. filter (is_inner b) (changed_at k f s.nodes)) barred
          ∙ filter-changed_out k f keeps (is_inner (barred_from hidden s.nodes)) same s.nodes
          (not_inside k hidden s.nodes out);
      barred = λ j. ap (λ b. is_among b j) barred;
      inside =
          λ j. ap (λ b. option_map_or (is_inner b) (node_at j (changed_at k f s.nodes)) false)
          barred
          ∙ asked-changed_at k f keeps (is_inner (barred_from hidden s.nodes)) same j s.nodes;
    }

-- Dropped.

-- what the pass has gathered stays
among-barred : (ks : List ℕ) (xs : List Node) (k : ℕ) → is_among ks k ≡ true
    → is_among (barred_from ks xs) k ≡ true
among-barred ks [] k h = h
among-barred ks (x ∷ xs) k h = among-barred (grown_by ks x) xs k (grind (arith, nat_tests))

-- who is inside stays so as the pass goes on
inner-barred : (ks : List ℕ) (xs : List Node) (n : Node) → is_inner ks n ≡ true
    → is_inner (barred_from ks xs) n ≡ true
inner-barred ks xs n h = go n.parent h
  where
    go : (p : Option ℕ) → option_map_or (is_among ks) p false ≡ true
        → option_map_or (is_among (barred_from ks xs)) p false ≡ true
    go None t = t
    go (Some p) t = among-barred ks xs p t

-- a node that isn't inside adds nothing to the pass
grown-outer : (ks : List ℕ) (x : Node) (xs : List Node)
    → is_inner (barred_from ks (x ∷ xs)) x ≡ false → grown_by ks x ≡ ks
grown-outer ks x xs out = go (is_inner ks x) refl
  where
    go : (b : Bool) → is_inner ks x ≡ b → grown_by ks x ≡ ks
    go true e =
        absurd (let t : is_inner (barred_from ks (x ∷ xs)) x
        ≡ true = inner-barred ks (x ∷ xs) x e in cc)
    go false e = rw e refl

module _ (k : ℕ) where
  -- the pass gathers what it did
  barred-dropped_at : (ks : List ℕ) (xs : List Node)
      → ((n : Node) → node_at k xs ≡ Some n → is_inner (barred_from ks xs) n ≡ false)
      → barred_from ks (dropped_at k xs) ≡ barred_from ks xs
  barred-dropped_at ks [] out = refl
  barred-dropped_at ks (x ∷ xs) out =
      go (eqb x.number k) refl (barred-dropped_at (grown_by ks x) xs)
    where
      go : (b : Bool) → eqb x.number k ≡ b
          → (((n : Node) → node_at k xs ≡ Some n
          → is_inner (barred_from (grown_by ks x) xs) n ≡ false)
          → barred_from (grown_by ks x) (dropped_at k xs) ≡ barred_from (grown_by ks x) xs)
          → barred_from ks (dropped_at k (x ∷ xs)) ≡ barred_from ks (x ∷ xs)
      go true e ih =
          let same : grown_by ks x ≡ ks = grown-outer ks x xs (out x (rw e refl)) in
          rw e (ap (λ b. barred_from b xs) (sym same))
      go false e ih = rw e (ih (λ n found. out n (rw e found)))

  -- a filter that keeps the node that is dropped
  filter-dropped_at : (p : Node → Bool) (xs : List Node)
      → ((n : Node) → node_at k xs ≡ Some n → p n ≡ true)
      → filter p (dropped_at k xs) ≡ dropped_at k (filter p xs)
  filter-dropped_at p [] kept = refl
  filter-dropped_at p (x ∷ xs) kept = go (eqb x.number k) refl (filter-dropped_at p xs)
    where
      go : (b : Bool) → eqb x.number k ≡ b
          → (((n : Node) → node_at k xs ≡ Some n → p n ≡ true)
          → filter p (dropped_at k xs) ≡ dropped_at k (filter p xs))
          → filter p (dropped_at k (x ∷ xs)) ≡ dropped_at k (filter p (x ∷ xs))
      go true e ih = let here : p x ≡ true = kept x (rw e refl) in rw (e, here) (rw e refl)
      go false e ih =
          let rest : filter p (dropped_at k xs) ≡ dropped_at k (filter p xs)
          = ih (λ n found. kept n (rw e found)) in
          grind arith

  -- a filter that leaves it out
  filter-dropped_out : (p : Node → Bool) (xs : List Node)
      → ((n : Node) → node_at k xs ≡ Some n → p n ≡ false)
      → filter p (dropped_at k xs) ≡ filter p xs
  filter-dropped_out p [] out = refl
  filter-dropped_out p (x ∷ xs) out = go (eqb x.number k) refl (filter-dropped_out p xs)
    where
      go : (b : Bool) → eqb x.number k ≡ b
          → (((n : Node) → node_at k xs ≡ Some n → p n ≡ false)
          → filter p (dropped_at k xs) ≡ filter p xs)
          → filter p (dropped_at k (x ∷ xs)) ≡ filter p (x ∷ xs)
      go true e ih = let here : p x ≡ false = out x (rw e refl) in rw (e, here) refl
      go false e ih =
          let rest : filter p (dropped_at k xs) ≡ filter p xs
          = ih (λ n found. out n (rw e found)) in
          grind arith

  -- what is asked of the node of a number, where the node that goes did not pass
  asked-dropped_at : (p : Node → Bool) (j : ℕ) (xs : List Node) → IsOrdered xs
      → ((n : Node) → node_at k xs ≡ Some n → p n ≡ false)
      → option_map_or p (node_at j (dropped_at k xs)) false ≡ option_map_or p (node_at j xs) false
  asked-dropped_at p j [] o out = refl
  asked-dropped_at p j (x ∷ xs) o out =
      go (eqb x.number k) refl (asked-dropped_at p j xs (tail_ordered x xs o))
    where
      go : (b : Bool) → eqb x.number k ≡ b
          → (((n : Node) → node_at k xs ≡ Some n → p n ≡ false)
          → option_map_or p (node_at j (dropped_at k xs)) false
          ≡ option_map_or p (node_at j xs) false)
          → option_map_or p (node_at j (dropped_at k (x ∷ xs))) false
          ≡ option_map_or p (node_at j (x ∷ xs)) false
      go true e ih =
          let here : p x ≡ false = out x (rw e refl) in
          let none : j ≡ x.number → node_at j xs ≡ None = λ same. no_later x xs o j (omega arith) in
          rw e (gone (eqb x.number j) refl here none)
        where
          gone : (b : Bool) → eqb x.number j ≡ b → p x ≡ false
              → (j ≡ x.number → node_at j xs ≡ None)
              → option_map_or p (node_at j xs) false ≡ option_map_or p (node_at j (x ∷ xs)) false
          gone true t here none = rw (t, none (grind (arith, nat_tests))) (sym here)
          gone false t here none = rw t refl
      go false e ih =
          let rest : option_map_or p (node_at j (dropped_at k xs)) false
          ≡ option_map_or p (node_at j xs) false
          = ih (λ n found. out n (rw e found)) in
          rw e (past (eqb x.number j) rest)
        where
          past : (b : Bool)
              → option_map_or p (node_at j (dropped_at k xs)) false
              ≡ option_map_or p (node_at j xs) false
              → option_map_or p (cond b (Some x) (node_at j (dropped_at k xs))) false
              ≡ option_map_or p (cond b (Some x) (node_at j xs)) false
          past true r = refl
          past false r = r

-- taking out a node that isn't inside, where numbers rise
pub drop_spares_ordered : (hidden : List ℕ) (s : Server) (k : ℕ) → IsOrdered s.nodes
    → IsFalse (is_inside_at k hidden s.nodes) → ServerSpares hidden (with_dropped k) s
drop_spares_ordered hidden s k o out =
    let not_inner : (n : Node) → node_at k s.nodes ≡ Some n
    → is_inner (barred_from hidden s.nodes) n ≡ false
    = not_inside k hidden s.nodes out in
    let barred : barred_from hidden (dropped_at k s.nodes) ≡ barred_from hidden s.nodes
    = barred-dropped_at k hidden s.nodes not_inner in
    record {
      commutes =
          ap (λ ns. with_nodes s ns)
          (ap (λ b. filter (λ n. not (is_inner b n)) (dropped_at k s.nodes)) barred
          ∙ filter-dropped_at k (λ n. not (is_inner (barred_from hidden s.nodes) n)) s.nodes
          (λ n found. ap not (not_inner n found)));
      insides = ap (λ b. filter (is_inner b) (dropped_at k s.nodes)) barred
          ∙ filter-dropped_out k (is_inner (barred_from hidden s.nodes)) s.nodes not_inner;
      barred = λ j. ap (λ b. is_among b j) barred;
      inside =
          λ j. ap (λ b. option_map_or (is_inner b) (node_at j (dropped_at k s.nodes)) false) barred
          ∙ asked-dropped_at k (is_inner (barred_from hidden s.nodes)) j s.nodes o not_inner;
    }

pub server_drop_spares : ServerDropSpares
server_drop_spares hidden s k w out = drop_spares_ordered hidden s k (ordered s w) out

-- Added.

-- the pass comes to a node that was put last
barred-push : (ks : List ℕ) (xs : List Node) (n : Node)
    → barred_from ks (xs ++ n ∷ []) ≡ grown_by (barred_from ks xs) n
barred-push ks [] n = refl
barred-push ks (x ∷ xs) n = barred-push (grown_by ks x) xs n

-- a node that is found, or the one that was put last
asked-push : (p : Node → Bool) (j : ℕ) (xs : List Node) (n : Node) → p n ≡ false
    → option_map_or p (node_at j (xs ++ n ∷ [])) false ≡ option_map_or p (node_at j xs) false
asked-push p j [] n out = grind arith
asked-push p j (x ∷ xs) n out = grind (arith, asked-push p j xs n out)

pub server_add_spares : ServerAddSpares
server_add_spares hidden s dir make in_dir out =
    let n : Node = make s.next in
    let not_inner : is_inner (barred_from hidden s.nodes) n ≡ false = rw (in_dir s.next) out in
    let barred : barred_from hidden (s.nodes ++ n ∷ []) ≡ barred_from hidden s.nodes
    = barred-push hidden s.nodes n ∙ rw not_inner refl in
    record {
      commutes =
          ap (λ ns. record { nodes = ns; next = s.next + 1 })
          (ap (λ b. filter (λ m. not (is_inner b m)) (s.nodes ++ n ∷ [])) barred
          ∙ filter-append (λ m. not (is_inner (barred_from hidden s.nodes) m)) s.nodes (n ∷ [])
          ∙ rw not_inner refl);
      insides = ap (λ b. filter (is_inner b) (s.nodes ++ n ∷ [])) barred
          ∙ filter-append (is_inner (barred_from hidden s.nodes)) s.nodes (n ∷ [])
          ∙ rw not_inner (append-nil _);
      barred = λ j. ap (λ b. is_among b j) barred;
      inside =
          λ j. ap (λ b. option_map_or (is_inner b) (node_at j (s.nodes ++ n ∷ [])) false) barred
          ∙ asked-push (is_inner (barred_from hidden s.nodes)) j s.nodes n not_inner;
    }

-- a node put last is found by its number, if that is above all others
node_at-push : (xs : List Node) (n : Node) → All (λ m. m.number < n.number) xs
    → node_at n.number (xs ++ n ∷ []) ≡ Some n
node_at-push [] n below = grind (arith, nat_tests)
node_at-push (x ∷ xs) n below =
    let here : x.number < n.number = All-head (λ m. m.number < n.number) x xs below in
    grind (arith, nat_tests, node_at-push xs n (All-tail (λ m. m.number < n.number) x xs below))

-- a node's own number doesn't make it inside
inner-grown : (ks : List ℕ) (n : Node) → is_inner (grown_by ks n) n ≡ is_inner ks n
inner-grown ks n = go (is_inner ks n) refl
  where
    more : (p : Option ℕ) → option_map_or (is_among ks) p false ≡ true
        → option_map_or (is_among (n.number ∷ ks)) p false ≡ true
    more None t = t
    more (Some p) t = grind arith

    go : (b : Bool) → is_inner ks n ≡ b → is_inner (cond b (n.number ∷ ks) ks) n ≡ b
    go true e = more n.parent e
    go false e = e

pub server_parent_decides : ServerParentDecides
server_parent_decides hidden s dir n w at in_dir =
    let found : node_at s.next (s.nodes ++ n ∷ []) ≡ Some n
    = rw (← at) (node_at-push s.nodes n (rw (← at) at w.below)) in
    rw found (ap (λ b. is_inner b n) (barred-push hidden s.nodes n)
    ∙ inner-grown (barred_from hidden s.nodes) n ∙ rw in_dir refl)

-- the next number is not barred, where all hidden and all present ones lie below it
pub next_is_free_ordered : (hidden : List ℕ) (s : Server) → IsOrdered s.nodes
    → All (λ n. n.number < s.next) s.nodes → ((k : ℕ) → IsTrue (is_among hidden k) → k < s.next)
    → IsFalse (is_among (barred_from hidden s.nodes) s.next)
next_is_free_ordered hidden s o below given =
    let none : node_at s.next s.nodes ≡ None = node_at-past s.next s.nodes below in
    let shown : is_among hidden s.next ≡ false
    = not_true (is_among hidden s.next) (λ t. let low = given s.next t in omega arith) in
    barred-is_among hidden s.nodes s.next o ∙ rw (shown, none) refl

pub server_next_is_free : ServerNextIsFree
server_next_is_free hidden s w given = next_is_free_ordered hidden s (ordered s w) w.below given

-- What a look-up in a server's list of nodes finds.
use Rattle.std.proofs.Common.{◌≡◌, ℕ, suc, ◌+◌, ◌<◌, ◌≤◌, Bool, true, false, cond, eqb, List, []}
use Rattle.std.proofs.Common.{◌∷◌, length, get_or, set, Some, None, refl, sym, ap, ◌∙◌, subst, inl}
use Rattle.std.proofs.Common.{inr, one-add, arith, All, AllPairs}
use Rattle.std.specs.Prelude.{IsTrue}
use Rattle.std.specs.List.{find, slice_get, position, position_or_len, remove}
use Rattle.std.proofs.lemmas.Bool.{lt-ltb, le-ltb, cases_lt}
use Rattle.std.proofs.lemmas.List.Folds.{find_at}
use Rattle.std.proofs.lemmas.Option.{slice_get_read}
use Rattle.std.proofs.lemmas.Bool.Decides.{nat_tests}
use Rattle.std.proofs.lemmas.List.Elements.{All-cons, All-head, All-nil, All-tail, All-weaker}
use Rattle.p9_tree.specs.Node.{Node, has_number}
use Rattle.p9_tree.specs.Server.{exists_at, node_at, changed_at, dropped_at}

-- a node that is found has the number
pub number-node_at : (k : ℕ) (xs : List Node) (n : Node) → node_at k xs ≡ Some n → n.number ≡ k
number-node_at k [] n e = cc
number-node_at k (x ∷ xs) n e = grind (arith, nat_tests, number-node_at k xs n)

-- what holds of all holds of a node that is found
pub All-node_at : (P : Node → Type 0) (k : ℕ) (xs : List Node) (n : Node) → All P xs
    → node_at k xs ≡ Some n → P n
All-node_at P k [] n all e = absurd (cc)
All-node_at P k (x ∷ xs) n all e =
    let here : P x = All-head P x xs all in
    elim (eqb x.number k) as (λ b. cond b (Some x) (node_at k xs) ≡ Some n → P n) [
      | true ↦ λ same. let e' : x ≡ n = cc in subst P e' here
      | false ↦ λ later. All-node_at P k xs n (All-tail P x xs all) later
    ] e

-- no node has a number past all
pub node_at-past : (k : ℕ) (xs : List Node) → All (λ n. n.number < k) xs → node_at k xs ≡ None
node_at-past k [] below = refl
node_at-past k (x ∷ xs) below =
    let here : x.number < k = All-head (λ n. n.number < k) x xs below in
    grind (arith, nat_tests, node_at-past k xs (All-tail (λ n. n.number < k) x xs below))

-- no node has a number before all
pub node_at-before : (k : ℕ) (xs : List Node) → All (λ n. k < n.number) xs → node_at k xs ≡ None
node_at-before k [] above = refl
node_at-before k (x ∷ xs) above =
    let here : k < x.number = All-head (λ n. k < n.number) x xs above in
    grind (arith, nat_tests, node_at-before k xs (All-tail (λ n. k < n.number) x xs above))

-- of nodes by rising number, the first is below all others
pub rising_head : (x : Node) (xs : List Node) → AllPairs (λ m n. m.number < n.number) (x ∷ xs)
    → All (λ n. x.number < n.number) xs
rising_head x xs rising j d in_range = rising 0 (suc j) d (omega arith) (omega arith)

-- and the others rise
pub rising_tail : (x : Node) (xs : List Node) → AllPairs (λ m n. m.number < n.number) (x ∷ xs)
    → AllPairs (λ m n. m.number < n.number) xs
rising_tail x xs rising i j d lt in_range = rising (suc i) (suc j) d (omega arith) (omega arith)

-- a node that is found behind the first is found among all
pub node_at-later : (x : Node) (xs : List Node) → All (λ n. x.number < n.number) xs → (k : ℕ)
    (n : Node) → node_at k xs ≡ Some n → node_at k (x ∷ xs) ≡ Some n
node_at-later x xs above k n e =
    let none : node_at x.number xs ≡ None = node_at-before x.number xs above in
    grind (arith, nat_tests)

-- each of the nodes is found by its number
pub each_found : (xs : List Node) → AllPairs (λ m n. m.number < n.number) xs
    → All (λ n. node_at n.number xs ≡ Some n) xs
each_found [] rising = All-nil (λ n. node_at n.number [] ≡ Some n)
each_found (x ∷ xs) rising =
    All-cons (λ n. node_at n.number (x ∷ xs) ≡ Some n) x xs (grind (arith, nat_tests))
    (All-weaker (λ n. node_at n.number xs ≡ Some n) (λ n. node_at n.number (x ∷ xs) ≡ Some n)
    (λ n e. node_at-later x xs (rising_head x xs rising) n.number n e) xs
    (each_found xs (rising_tail x xs rising)))

-- a node that a look-up finds is one that it looks for
pub passes-found : (p : Node → Bool) (xs : List Node) (n : Node) → find p xs ≡ Some n → p n ≡ true
passes-found p [] n e = absurd (cc)
passes-found p (x ∷ xs) n e =
    elim (p x) as (λ b. p x ≡ b → cond b (Some x) (find p xs) ≡ Some n → p n ≡ true) [
      | true ↦ λ here same. let one : x ≡ n = cc in ap p (sym one) ∙ here
      | false ↦ λ here rest. passes-found p xs n rest
    ] refl e

-- a node that any look-up finds is found by its number
pub node_at-found : (p : Node → Bool) (xs : List Node) (n : Node)
    → AllPairs (λ m n. m.number < n.number) xs → find p xs ≡ Some n → node_at n.number xs ≡ Some n
node_at-found p [] n rising e = absurd (cc)
node_at-found p (x ∷ xs) n rising e =
    let later : find p xs ≡ Some n → node_at n.number xs ≡ Some n =
    node_at-found p xs n (rising_tail x xs rising) in
    let above : node_at n.number xs ≡ Some n → x.number < n.number =
    All-node_at (λ m. x.number < m.number) n.number xs n (rising_head x xs rising) in
    elim (p x) as (λ b. cond b (Some x) (find p xs) ≡ Some n → node_at n.number (x ∷ xs) ≡ Some n) [
      | true ↦ λ same. let here : x ≡ n = cc in grind (arith, nat_tests)
      | false ↦ λ rest. let found : node_at n.number xs ≡ Some n =
          later rest in let lt : x.number < n.number = above found in grind (arith, nat_tests)
    ] e

module _ (k : ℕ) (xs : List Node) where
  -- the position of the number is within the list
  pub position_within : (i : ℕ) → position (has_number k) xs ≡ Some i
      → (i ≡ position_or_len (has_number k) xs) × (i < length xs)
  position_within i e = elim (cases_lt (position_or_len (has_number k) xs) (length xs)) [
    | inl lt ↦ (let t = lt-ltb _ _ lt in let same : i ≡ position_or_len (has_number k) xs = cc in
        (same, omega arith))
    | inr ge ↦ (let t = le-ltb _ _ ge in absurd (cc))
  ]

  -- the number has no position
  pub position_past : position (has_number k) xs ≡ None
      → length xs ≤ position_or_len (has_number k) xs
  position_past e = elim (cases_lt (position_or_len (has_number k) xs) (length xs)) [
    | inl lt ↦ (let t = lt-ltb _ _ lt in absurd (cc))
    | inr ge ↦ ge
  ]

  -- the node at the number's position is the one that a look-up finds
  pub node_at-position : (i : ℕ) (n : Node) → position (has_number k) xs ≡ Some i
      → n ≡ get_or xs i n → node_at k xs ≡ Some n
  node_at-position i n e read =
      let at = position_within i e in
      find_at (has_number k) xs ∙ ap (λ q. slice_get xs q) (sym at.0)
      ∙ slice_get_read xs (length xs) i n refl at.1 read

  pub exists-position : (i : ℕ) (n : Node) → position (has_number k) xs ≡ Some i
      → n ≡ get_or xs i n → IsTrue (exists_at k xs)
  exists-position i n e read = rw (node_at-position i n e read) refl

-- a write over the node of a number changes it
set-changed_here : (k : ℕ) (f : Node → Node) (xs : List Node) (n : Node)
    → position_or_len (has_number k) xs < length xs
    → n ≡ get_or xs (position_or_len (has_number k) xs) n
    → set xs (position_or_len (has_number k) xs) (f n) ≡ changed_at k f xs
set-changed_here k f [] n lt e = absurd (omega arith)
set-changed_here k f (x ∷ xs) n lt e = grind (arith, nat_tests, set-changed_here k f xs n)

pub set-changed_at : (k : ℕ) (f : Node → Node) (xs : List Node) (i : ℕ) (n y : Node)
    → position (has_number k) xs ≡ Some i → n ≡ get_or xs i n → y ≡ f n
    → set xs i y ≡ changed_at k f xs
set-changed_at k f xs i n y e read new =
    let at = position_within k xs i e in
    ap (λ z. set xs i z) new ∙ ap (λ q. set xs q (f n)) at.0
    ∙ set-changed_here k f xs n (subst (λ q. q < length xs) at.0 at.1)
    (read ∙ ap (λ q. get_or xs q n) at.0)

-- where there is no node of the number, none is changed
absent-changed_here : (k : ℕ) (f : Node → Node) (xs : List Node)
    → length xs ≤ position_or_len (has_number k) xs → xs ≡ changed_at k f xs
absent-changed_here k f [] ge = refl
absent-changed_here k f (x ∷ xs) ge = grind (arith, nat_tests, absent-changed_here k f xs)

pub absent-changed_at : (k : ℕ) (f : Node → Node) (xs : List Node)
    → position (has_number k) xs ≡ None → xs ≡ changed_at k f xs
absent-changed_at k f xs e = absent-changed_here k f xs (position_past k xs e)

-- taking out the node of a number drops it
remove-dropped_here : (k : ℕ) (xs : List Node) → position_or_len (has_number k) xs < length xs
    → remove xs (position_or_len (has_number k) xs) ≡ dropped_at k xs
remove-dropped_here k [] lt = absurd (omega arith)
remove-dropped_here k (x ∷ xs) lt =
    let at : ℕ = position_or_len (has_number k) xs in
    let later : remove (x ∷ xs) (1 + at) ≡ x ∷ remove xs at = rw (one-add) in
    grind (arith, nat_tests, remove-dropped_here k xs)

pub remove-dropped_at : (k : ℕ) (xs ys : List Node) (i : ℕ) → position (has_number k) xs ≡ Some i
    → ys ≡ remove xs i → ys ≡ dropped_at k xs
remove-dropped_at k xs ys i e rest =
    let at = position_within k xs i e in
    rest ∙ ap (λ q. remove xs q) at.0
    ∙ remove-dropped_here k xs (subst (λ q. q < length xs) at.0 at.1)

-- where there is no node of the number, none is dropped
absent-dropped_here : (k : ℕ) (xs : List Node) → length xs ≤ position_or_len (has_number k) xs
    → xs ≡ dropped_at k xs
absent-dropped_here k [] ge = refl
absent-dropped_here k (x ∷ xs) ge = grind (arith, nat_tests, absent-dropped_here k xs)

pub absent-dropped_at : (k : ℕ) (xs : List Node) → position (has_number k) xs ≡ None
    → xs ≡ dropped_at k xs
absent-dropped_at k xs e = absent-dropped_here k xs (position_past k xs e)

-- The children of a directory, one after another.
use Rattle.std.proofs.Common.{◌≡◌, ℕ, ◌+◌, ◌-◌, ◌<◌, ◌≤◌, Bool, true, false, cond, ◌&&◌, List, []}
use Rattle.std.proofs.Common.{◌∷◌, Option, Some, None, refl, sym, ap, ◌∙◌, subst, arith, All}
use Rattle.std.proofs.Common.{AllPairs}
use Rattle.std.specs.Prelude.{filter, find, nat_lt}
use Rattle.std.specs.Option.{option_map_or, option_or}
use Rattle.std.proofs.lemmas.Bool.{and_parts}
use Rattle.std.proofs.lemmas.Bool.Decides.{nat_tests}
use Rattle.std.proofs.lemmas.List.Elements.{All-head, All-tail, All-weaker, filter_agree}
use Rattle.p9_base.specs.declared.node_ref.NodeRef.{NodeRef}
use Rattle.p9_tree.specs.Node.{Node, is_above, is_in}
use Rattle.p9_tree.specs.Server.{Server}
use Rattle.p9_tree.specs.Forest.{IsForest, child_in_after, children_of, next_of, server_at}
use Rattle.p9_tree.proofs.Lookups.{passes-found, rising_head, rising_tail}
use Rattle.p9_inside.proofs.Forests.{server_below, server_ordered}
use Rattle.p9_policy.proofs.Basics.{some_same}
use Rattle.p9_cert.specs.Gap.{first_of}

-- what holds of all holds of what is found
pub all_found : (P : Node → Type 0) (p : Node → Bool) (xs : List Node) (x : Node) → All P xs
    → find p xs ≡ Some x → P x
all_found P p [] x all e = absurd (cc)
all_found P p (y ∷ ys) x all e =
    let here : P y = All-head P y ys all in
    elim (p y) as (λ b. cond b (Some y) (find p ys) ≡ Some x → P x) [
      | true ↦ λ same. let e' : y ≡ x = cc in subst P e' here
      | false ↦ λ later. all_found P p ys x (All-tail P y ys all) later
    ] e

-- tests that agree on each item keep the same
kept_agree : (p q : Node → Bool) (xs : List Node) → All (λ x. p x ≡ q x) xs
    → filter p xs ≡ filter q xs
kept_agree p q [] all = refl
kept_agree p q (x ∷ xs) all =
    ap (λ b. cond b (x ∷ filter p xs) (filter p xs)) (All-head (λ y. p y ≡ q y) x xs all)
    ∙ ap (λ ys. cond (q x) (x ∷ ys) ys) (kept_agree p q xs (All-tail (λ y. p y ≡ q y) x xs all))

-- where none is found, none is kept
pub none_kept : (p : Node → Bool) (xs : List Node) → find p xs ≡ None → filter p xs ≡ []
none_kept p [] e = refl
none_kept p (x ∷ xs) e =
    elim (p x) as (λ b. cond b (Some x) (find p xs) ≡ None
    → cond b (x ∷ filter p xs) (filter p xs) ≡ []) [
      | true ↦ λ some. let no : Some x ≡ None = some in absurd (cc)
      | false ↦ λ none. none_kept p xs none
    ] e

module _ (dir : ℕ) where
  -- the children above a floor
  abbrev pub is_left : Option ℕ → Node → Bool
  is_left floor n = is_in dir n && is_above floor n

  above-more : (floor : Option ℕ) (x y : Node) → is_left floor x ≡ true → x.number < y.number
      → is_left floor y ≡ is_left (Some x.number) y
  above-more None x y t lt = grind (arith, nat_tests)
  above-more (Some k) x y t lt =
      let parts = and_parts (is_in dir x) (nat_lt k x.number) t in
      let above : nat_lt k x.number ≡ true = parts.1 in
      let low : k < x.number = grind (arith, nat_tests) in
      let a : nat_lt k y.number ≡ true = grind (arith, nat_tests) in
      let b : nat_lt x.number y.number ≡ true = grind (arith, nat_tests) in
      rw (a, b) refl

  not_left : (x m : Node) → x.number < m.number → is_left (Some m.number) x ≡ false
  not_left x m lt =
      let a : nat_lt m.number x.number ≡ false = grind (arith, nat_tests) in
      ap (λ b. is_in dir x && b) a ∙ and_false (is_in dir x)
    where
      and_false : (b : Bool) → (b && false) ≡ false
      and_false true = refl
      and_false false = refl

  self_not_left : (x : Node) → is_left (Some x.number) x ≡ false
  self_not_left x =
      let a : nat_lt x.number x.number ≡ false = grind (arith, nat_tests) in
      ap (λ b. is_in dir x && b) a ∙ and_false (is_in dir x)
    where
      and_false : (b : Bool) → (b && false) ≡ false
      and_false true = refl
      and_false false = refl

  -- the first that is left, and what is then left
  pub left-next : (floor : Option ℕ) (xs : List Node) (m : Node)
      → AllPairs (λ a b. a.number < b.number) xs → find (is_left floor) xs ≡ Some m
      → filter (is_left floor) xs ≡ m ∷ filter (is_left (Some m.number)) xs
  left-next floor [] m rising e = let no : None ≡ Some m = e in absurd (cc)
  left-next floor (x ∷ xs) m rising e =
      go (is_left floor x) refl e (left-next floor xs m (rising_tail x xs rising))
    where
      go : (b : Bool) → is_left floor x ≡ b → cond b (Some x) (find (is_left floor) xs) ≡ Some m
          → (find (is_left floor) xs ≡ Some m
          → filter (is_left floor) xs ≡ m ∷ filter (is_left (Some m.number)) xs)
          → filter (is_left floor) (x ∷ xs) ≡ m ∷ filter (is_left (Some m.number)) (x ∷ xs)
      go true t some behind =
          let same : x ≡ m = some_same x m some in
          subst (λ n. filter (is_left floor) (x ∷ xs)
          ≡ n ∷ filter (is_left (Some n.number)) (x ∷ xs))
          same
          (ap (λ b. cond b (x ∷ filter (is_left floor) xs) (filter (is_left floor) xs)) t
          ∙ ap (λ ys. x ∷ ys)
          (kept_agree (is_left floor) (is_left (Some x.number)) xs
          (All-weaker (λ n. x.number < n.number) (λ n. is_left floor n ≡ is_left (Some x.number) n)
          (λ n lt. above-more floor x n t lt) xs (rising_head x xs rising))
          ∙ sym (ap (λ b. cond b (x ∷ filter (is_left (Some x.number)) xs)
          (filter (is_left (Some x.number)) xs)) (self_not_left x))))
      go false t later behind =
          let lt : x.number < m.number =
          all_found (λ n. x.number < n.number) (is_left floor) xs m
          (rising_head x xs rising) later in
          ap (λ b. cond b (x ∷ filter (is_left floor) xs) (filter (is_left floor) xs)) t
          ∙ behind later
          ∙ ap (λ ys. m ∷ ys)
          (sym (ap (λ b. cond b (x ∷ filter (is_left (Some m.number)) xs)
          (filter (is_left (Some m.number)) xs)) (not_left x m lt)))

-- those that a loop has left
abbrev pub left_of : NodeRef → Option ℕ → List Server → List Node
left_of dir floor forest = filter (is_left dir.number floor) (server_at dir.server forest).nodes

-- at first all
pub left-all : (dir : NodeRef) (forest : List Server) → left_of dir None forest
    ≡ children_of dir forest
left-all dir forest =
    filter_agree (is_left dir.number None) (is_in dir.number) (λ n. and_true (is_in dir.number n))
    (server_at dir.server forest).nodes
  where
    and_true : (b : Bool) → (b && true) ≡ b
    and_true true = refl
    and_true false = refl

-- how many numbers are after
abbrev pub passed : Option ℕ → ℕ
passed floor = option_map_or (λ k. k + 1) floor 0

module _ {Y : Type 0} (f : Node → Option Y) (dir : NodeRef) (floor : Option ℕ)
    (forest : List Server)
    (sound : IsForest forest) where
  -- the next child
  pub children-next : (m : Node) (o : Option Y) → child_in_after dir floor forest ≡ Some m
      → f m ≡ None
      → first_of f (left_of dir floor forest) ≡ o
      → first_of f (left_of dir (Some m.number) forest) ≡ o
  children-next m o e none kept =
      sym (ap (first_of f)
      (left-next dir.number floor (server_at dir.server forest).nodes m
      (server_ordered forest sound dir.server).rising e)
      ∙ ap (λ p. option_or p (first_of f (left_of dir (Some m.number) forest))) none) ∙ kept

  -- the loop ends at a child
  pub children-found : (m : Node) (y : Y) (o : Option Y) → child_in_after dir floor forest ≡ Some m
      → f m ≡ Some y → first_of f (left_of dir floor forest) ≡ o → Some y ≡ o
  children-found m y o e some kept =
      sym (ap (first_of f)
      (left-next dir.number floor (server_at dir.server forest).nodes m
      (server_ordered forest sound dir.server).rising e)
      ∙ ap (λ p. option_or p (first_of f (left_of dir (Some m.number) forest))) some) ∙ kept

  -- or after the last
  pub children-end : (o : Option Y) → child_in_after dir floor forest ≡ None
      → first_of f (left_of dir floor forest) ≡ o → None ≡ o
  children-end o e kept =
      sym (ap (first_of f)
      (none_kept (is_left dir.number floor) (server_at dir.server forest).nodes e)) ∙ kept

-- a child above a floor is after what has passed
pub above-passed : (dir : ℕ) (floor : Option ℕ) (x : Node) → is_left dir floor x ≡ true
    → passed floor ≤ x.number
above-passed dir None x t = omega arith
above-passed dir (Some k) x t =
    let parts = and_parts (is_in dir x) (nat_lt k x.number) t in
    let above : nat_lt k x.number ≡ true = parts.1 in
    grind (arith, nat_tests)

-- fewer numbers are ahead
pub children-smaller : (dir : NodeRef) (floor : Option ℕ) (forest : List Server) (m : Node)
    → IsForest forest → child_in_after dir floor forest ≡ Some m →
    next_of dir.server forest - (m.number + 1) < next_of dir.server forest - passed floor
children-smaller dir floor forest m sound e =
    let nodes = (server_at dir.server forest).nodes in
    let below : m.number < next_of dir.server forest =
    all_found (λ n. n.number < next_of dir.server forest) (is_left dir.number floor) nodes m
    (server_below forest sound dir.server) e in
    let above : passed floor ≤ m.number =
    above-passed dir.number floor m (passes-found (is_left dir.number floor) nodes m e) in
    omega arith

-- What is picked from a list by the ranks of some of its elements.
use Rattle.std.proofs.Common.{◌≡◌, ℕ, zero, suc, ◌+◌, ◌-◌, ◌<◌, ◌≤◌, Bool, true, false, cond, ◌||◌, List}
use Rattle.std.proofs.Common.{[], ◌∷◌, Option, Some, None, refl, sym, ap, ◌∙◌, subst, arith}
use Rattle.std.proofs.Common.{inl, inr, ◌⊎◌, get_or, length, take}
use Rattle.std.specs.Prelude.{filter, slice_get, position, not, nat_lt}
use Rattle.std.specs.BTreeMap.{is_at}
use Rattle.std.specs.List.{AllByRecursion, IsDistinct, cons_option, filter_map, list_any, position_or_len}
use Rattle.std.specs.List.Sorted.{IsStrictlySortedBy}
use Rattle.std.specs.Ordering.{nat_cmp}
use Rattle.std.specs.declared.cmp.Ordering.TheVariants.{Less}
use Rattle.std.specs.Str.{bytes_eq}
use Rattle.std.proofs.lemmas.Bool.Decides.{nat_tests}
use Rattle.std.proofs.lemmas.List.Folds.{list_any_more}
use Rattle.std.proofs.lemmas.Slice.Eq.{bytes_eq-Decides}
use Rattle.p9_policy.proofs.Basics.{clash, not_some, some_same}
use Rattle.p9_view.specs.Ranks.{HasAdded, has_rank}
use Rattle.std.proofs.lemmas.Option.{slice_get_within}

below_of : (a b : ℕ) → nat_cmp a b ≡ Less → a < b
below_of a b e = grind (arith, nat_tests)

not_at : (i k : ℕ) → (i ≡ k → ⊥) → is_at (nat_cmp i) k ≡ false
not_at i k other = grind (arith, nat_tests)

none-below : (i : ℕ) (ks : List ℕ) → AllByRecursion (λ k. i < k) ks → has_rank ks i ≡ false
none-below i [] all = refl
none-below i (k ∷ ks) all =
    ap (λ b. b || has_rank ks i) (not_at i k (λ same. absurd (let lt = all.0 in omega arith)))
    ∙ none-below i ks all.1

-- nothing is picked where there is nothing
none-picked : {X : Type 0} (at : ℕ → Option X) (n : ℕ) (ks : List ℕ)
    → ((k : ℕ) → n ≤ k → at k ≡ None) → AllByRecursion (λ k. n ≤ k) ks → filter_map at ks ≡ []
none-picked at n [] nothing all = refl
none-picked at n (k ∷ ks) nothing all =
    ap (λ o. cons_option o (filter_map at ks)) (nothing k all.0)
    ∙ none-picked at n ks nothing all.1

above-all : (n : ℕ) (ks : List ℕ) → AllByRecursion (λ y. nat_cmp n y ≡ Less) ks
    → AllByRecursion (λ k. suc n ≤ k) ks
above-all n [] all = tt
above-all n (k ∷ ks) all =
    (let lt = below_of n k all.0 in omega arith, above-all n ks all.1)

more-above : (n m : ℕ) (ks : List ℕ) → m < n → AllByRecursion (λ y. nat_cmp n y ≡ Less) ks
    → AllByRecursion (λ k. suc m ≤ k) ks
more-above n m [] low all = tt
more-above n m (k ∷ ks) low all =
    (let lt = below_of n k all.0 in omega arith, more-above n m ks low all.1)

module _ {X : Type 0} (p : X → Bool) where
  -- what is at each rank, from a first one on, is that of a list
  abbrev pub AreAt : (ℕ → Option X) → ℕ → List X → Type 0
  AreAt at n xs = (i : ℕ) → at (n + i) ≡ slice_get xs i

  -- each element that passes has its rank among these
  abbrev pub Cover : List ℕ → ℕ → List X → Type 0
  Cover ks n xs = (i : ℕ) (x : X) → slice_get xs i ≡ Some x → p x ≡ true → has_rank ks (n + i) ≡ true

  at-next : (at : ℕ → Option X) (n : ℕ) (x : X) (xs : List X) → AreAt at n (x ∷ xs)
      → AreAt at (suc n) xs
  at-next at n x xs same i =
      let shift : suc n + i ≡ n + suc i = omega arith in ap at shift ∙ same (suc i)

  at-first : (at : ℕ → Option X) (n : ℕ) (x : X) (xs : List X) → AreAt at n (x ∷ xs)
      → at n ≡ Some x
  at-first at n x xs same = let shift : n ≡ n + 0 = omega arith in ap at shift ∙ same 0

  cover-next : (ks : List ℕ) (n : ℕ) (x : X) (xs : List X) → Cover ks n (x ∷ xs)
      → Cover ks (suc n) xs
  cover-next ks n x xs cover i y there t =
      let shift : suc n + i ≡ n + suc i = omega arith in
      ap (has_rank ks) shift ∙ cover (suc i) y there t

  cover-rest : (k : ℕ) (ks : List ℕ) (n : ℕ) (x : X) (xs : List X) → k ≡ n
      → Cover (k ∷ ks) n (x ∷ xs) → Cover ks (suc n) xs
  cover-rest k ks n x xs here cover i y there t =
      sym (ap (λ b. b || has_rank ks (suc n + i))
      (not_at (suc n + i) k (λ same. absurd (omega arith))))
      ∙ cover-next (k ∷ ks) n x xs cover i y there t

  fails : (ks : List ℕ) (n : ℕ) (x : X) (xs : List X) → Cover ks n (x ∷ xs)
      → AllByRecursion (λ k. n < k) ks → p x ≡ false
  fails ks n x xs cover above = go (p x) refl
    where
      at0 : n + 0 ≡ n
      at0 = omega arith

      go : (b : Bool) → p x ≡ b → p x ≡ false
      go false t = t
      go true t =
          clash (has_rank ks n) (sym (ap (has_rank ks) at0) ∙ cover 0 x refl t) (none-below n ks above)

  skip : (x : X) (xs : List X) → p x ≡ false → filter p (x ∷ xs) ≡ filter p xs
  skip x xs f = ap (λ b. cond b (x ∷ filter p xs) (filter p xs)) f

  less-all : (n : ℕ) (ks : List ℕ) → AllByRecursion (λ k. suc n ≤ k) ks
      → AllByRecursion (λ k. n < k) ks
  less-all n [] all = tt
  less-all n (k ∷ ks) all = (let le = all.0 in omega arith, less-all n ks all.1)

  -- what passes of what is at ascending ranks that cover all that passes, is all that passes
  picked : (at : ℕ → Option X) (n : ℕ) (ks : List ℕ) (xs : List X) → AreAt at n xs
      → IsStrictlySortedBy nat_cmp ks → AllByRecursion (λ k. n ≤ k) ks → Cover ks n xs
      → filter p (filter_map at ks) ≡ filter p xs
  unfolding IsStrictlySortedBy
  picked at n ks [] same sorted above cover =
      ap (filter p) (none-picked at n ks past above)
    where
      past : (k : ℕ) → n ≤ k → at k ≡ None
      past k le = let shift : k ≡ n + (k - n) = omega arith in ap at shift ∙ same (k - n)
  picked at n [] (x ∷ xs) same sorted above cover =
      picked at (suc n) [] xs (at-next at n x xs same) tt tt (cover-next [] n x xs cover)
      ∙ sym (skip x xs (fails [] n x xs cover tt))
  picked at n (k ∷ ks) (x ∷ xs) same sorted above cover =
      go (λ ls. picked at (suc n) ls xs (at-next at n x xs same)) (nat_lt n k) refl
    where
      go : ((ls : List ℕ) → IsStrictlySortedBy nat_cmp ls → AllByRecursion (λ j. suc n ≤ j) ls
          → Cover ls (suc n) xs → filter p (filter_map at ls) ≡ filter p xs)
          → (b : Bool) → nat_lt n k ≡ b
          → filter p (filter_map at (k ∷ ks)) ≡ filter p (x ∷ xs)
      go later true t =
          let lt : n < k = grind (arith, nat_tests) in
          later (k ∷ ks) sorted
          ((let le : suc n ≤ k = omega arith in le), more-above k n ks lt sorted.0)
          (cover-next (k ∷ ks) n x xs cover)
          ∙ sym (skip x xs (fails (k ∷ ks) n x xs cover
          (lt, less-all n ks (more-above k n ks lt sorted.0))))
      go later false f =
          let le = above.0 in
          let here : k ≡ n = grind (arith, nat_tests) in
          ap (λ o. filter p (cons_option o (filter_map at ks)))
          (ap at here ∙ at-first at n x xs same)
          ∙ ap (λ r. cond (p x) (x ∷ r) r)
          (later ks sorted.1
          (subst (λ m. AllByRecursion (λ j. suc m ≤ j) ks) here (above-all k ks sorted.0))
          (cover-rest k ks n x xs here cover))

-- the ranks are from 0 on
all-ranks : (ks : List ℕ) → AllByRecursion (λ k. 0 ≤ k) ks
all-ranks [] = tt
all-ranks (k ∷ ks) = (omega arith, all-ranks ks)

-- the same of all elements of a list, from its first rank on
pub all-picked : {X : Type 0} (p : X → Bool) (ks : List ℕ) (xs : List X)
    → IsStrictlySortedBy nat_cmp ks
    → ((i : ℕ) (x : X) → slice_get xs i ≡ Some x → p x ≡ true → has_rank ks i ≡ true)
    → filter p (filter_map (slice_get xs) ks) ≡ filter p xs
all-picked p ks xs sorted cover =
    picked p (slice_get xs) 0 ks xs (λ i. ap (slice_get xs) (shift i)) sorted (all-ranks ks)
    (λ i x there t. ap (has_rank ks) (shift i) ∙ cover i x there t)
  where
    shift : (i : ℕ) → 0 + i ≡ i
    shift i = omega arith

-- The position of a name among distinct ones.

differs_at : {X : Type 0} (eq : X → X → Bool) (x : X) (xs : List X) (i : ℕ) (y : X)
    → AllByRecursion (λ z. eq x z ≡ false) xs → slice_get xs i ≡ Some y → eq x y ≡ false
differs_at eq x [] i y all there = not_some y there
differs_at eq x (z ∷ xs) zero y all there =
    let same : z ≡ y = some_same z y there in subst (λ w. eq x w ≡ false) same all.0
differs_at eq x (z ∷ xs) (suc i) y all there = differs_at eq x xs i y all.1 there

module _ {X : Type 0} (eq : X → X → Bool) (test : X → Bool)
    (joined : (x y : X) → test x ≡ true → test y ≡ true → eq x y ≡ true) where
  -- what passes stands first among those that pass, where all are distinct
  length-before : (xs : List X) (i : ℕ) (x : X) → IsDistinct eq xs → slice_get xs i ≡ Some x
      → test x ≡ true → position_or_len test xs ≡ i
  unfolding IsDistinct
  length-before [] i x distinct there t = not_some x there
  length-before (y ∷ xs) zero x distinct there t =
      let same : y ≡ x = some_same y x there in
      ap (λ b. cond (not b) (1 + position_or_len test xs) 0)
      (subst (λ z. test z ≡ true) (sym same) t)
  length-before (y ∷ xs) (suc i) x distinct there t =
      go (test y) refl (length-before xs i x distinct.1 there t)
    where
      go : (b : Bool) → test y ≡ b → position_or_len test xs ≡ i
          → cond (not (test y)) (1 + position_or_len test xs) 0 ≡ suc i
      go true ty later =
          clash (eq y x) (joined y x ty t) (differs_at eq y xs i x distinct.0 there)
      go false ty later =
          ap (λ b. cond (not b) (1 + position_or_len test xs) 0) ty
          ∙ (let same : 1 + position_or_len test xs ≡ suc i = omega arith in same)

  pub position-distinct : (xs : List X) (i : ℕ) (x : X) → IsDistinct eq xs
      → slice_get xs i ≡ Some x → test x ≡ true → position test xs ≡ Some i
  position-distinct xs i x distinct there t =
      let is = length-before xs i x distinct there t in
      let within = slice_get_within xs i x there in
      ap (λ n. cond (nat_lt n (length xs)) (Some n) None) is
      ∙ ap (λ b. cond b (Some i) None) (test-within within)
    where
      test-within : i < length xs → nat_lt i (length xs) ≡ true
      test-within lt = grind (arith, nat_tests)

-- a name among distinct ones
pub rank_of : (users : List (List ℕ)) (i : ℕ) (user name : List ℕ) → IsDistinct bytes_eq users
    → slice_get users i ≡ Some user → user ≡ name → position (bytes_eq name) users ≡ Some i
rank_of users i user name distinct there same =
    position-distinct bytes_eq (bytes_eq name) joined users i user distinct there is
  where
    joined : (x y : List ℕ) → bytes_eq name x ≡ true → bytes_eq name y ≡ true → bytes_eq x y ≡ true
    joined x y a b =
        grind (arith, bytes_eq-Decides name x, bytes_eq-Decides name y, bytes_eq-Decides x y)

    is : bytes_eq name user ≡ true
    is = grind (arith, bytes_eq-Decides name user)

-- What is added.

kept_in : (b old : Bool) → old ≡ true → cond b true old ≡ true
kept_in true old t = refl
kept_in false old t = t

at-itself : (i : ℕ) → is_at (nat_cmp i) i ≡ true
at-itself i = grind (arith, nat_tests)

module _ (users : List (List ℕ)) (name : List ℕ) (distinct : IsDistinct bytes_eq users) where
  -- the rank of a name is added
  pub one-added : (rank : ℕ) (old new : List ℕ) → position (bytes_eq name) users ≡ Some rank
      → ((i : ℕ) → has_rank new i ≡ cond (is_at (nat_cmp rank) i) true (has_rank old i))
      → HasAdded (λ user. user ≡ name) users old new
  one-added rank old new is updated = record {
    kept = λ i t. updated i ∙ kept_in (is_at (nat_cmp rank) i) (has_rank old i) t;
    added = λ i user there same.
        let at : rank ≡ i =
        some_same rank i (sym is ∙ rank_of users i user name distinct there same) in
        updated i
        ∙ ap (λ b. cond b true (has_rank old i))
        (subst (λ r. is_at (nat_cmp r) i ≡ true) (sym at) (at-itself i));
  }

  -- where it has none, there is nothing to add
  pub none-added : (old : List ℕ) → position (bytes_eq name) users ≡ None
      → HasAdded (λ user. user ≡ name) users old old
  none-added old none = record {
    kept = λ i t. t;
    added = λ i user there same.
        not_some i (sym none ∙ rank_of users i user name distinct there same);
  }

-- first some are added, and then others
pub both-added : (P Q R : List ℕ → Type 0) (users : List (List ℕ)) (a b c : List ℕ)
    → ((user : List ℕ) → R user → P user ⊎ Q user) → HasAdded P users a b → HasAdded Q users b c
    → HasAdded R users a c
both-added P Q R users a b c split first second = record {
  kept = λ i t. second.kept i (first.kept i t);
  added = λ i user there is. elim (split user is) [
    | inl p ↦ second.kept i (first.added i user there p)
    | inr q ↦ second.added i user there q
  ];
}

-- one of a name more
pub among-more : (names : List (List ℕ)) (i : ℕ) (d : List ℕ) → i < length names
    → (user : List ℕ) → list_any (bytes_eq user) (take (i + 1) names) ≡ true
    → (list_any (bytes_eq user) (take i names) ≡ true) ⊎ (user ≡ get_or names i d)
among-more names i d within user t =
    go (list_any (bytes_eq user) (take i names)) refl
  where
    go : (b : Bool) → list_any (bytes_eq user) (take i names) ≡ b
        → (list_any (bytes_eq user) (take i names) ≡ true) ⊎ (user ≡ get_or names i d)
    go true e = inl e
    go false e =
        let either = sym (ap (λ b. b || bytes_eq user (get_or names i d)) e)
        ∙ sym (list_any_more (bytes_eq user) names i d within) ∙ t in
        inr (grind (arith, bytes_eq-Decides user (get_or names i d)))

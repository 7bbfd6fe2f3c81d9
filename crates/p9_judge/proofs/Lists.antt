-- Lists by their positions.
use Rattle.std.proofs.Common.{◌≡◌, ℕ, zero, suc, ◌+◌, ◌<◌, Bool, true, false, cond, ◌||◌, List}
use Rattle.std.proofs.Common.{[], ◌∷◌, ◌++◌, length, map, Some, None, refl, sym, ap, ◌∙◌, subst}
use Rattle.std.proofs.Common.{arith}
use Rattle.std.proofs.Common.{◌⊎◌, inl, inr}
use Rattle.std.specs.Prelude.{filter, find, slice_get}
use Rattle.std.specs.List.{AllByRecursion, list_any}
use Rattle.std.proofs.lemmas.Bool.{or_left, or_right}
use Rattle.std.specs.Str.{bytes_eq}
use Rattle.std.proofs.lemmas.Slice.Eq.{bytes_eq-Decides}
use Rattle.p9_policy.proofs.Basics.{clash, not_some, some_same}

module _ {X : Type 0} where
  -- what is there stays where more is added
  pub kept_at : (xs ys : List X) (i : ℕ) (x : X) → slice_get xs i ≡ Some x
      → slice_get (xs ++ ys) i ≡ Some x
  kept_at [] ys i x e = not_some x e
  kept_at (y ∷ xs) ys zero x e = e
  kept_at (y ∷ xs) ys (suc i) x e = kept_at xs ys i x e

  -- what is then there was there, or is among the new
  pub split_at : (xs ys : List X) (i : ℕ) (x : X) → slice_get (xs ++ ys) i ≡ Some x
      → (slice_get xs i ≡ Some x)
      ⊎ ((j : ℕ) × (i ≡ length xs + j) × (slice_get ys j ≡ Some x))
  split_at [] ys i x e = inr (i, omega arith, e)
  split_at (y ∷ xs) ys zero x e = inl e
  split_at (y ∷ xs) ys (suc i) x e = elim (split_at xs ys i x e) [
    | inl there ↦ inl there
    | inr new ↦ inr (new.0, suc_of (length xs) new.0 i new.1, new.2)
  ]
    where
      suc_of : (n j i : ℕ) → i ≡ n + j → suc i ≡ suc n + j
      suc_of n j i e = omega arith

  -- the new
  pub new_at : (xs ys : List X) (j : ℕ) (x : X) → slice_get ys j ≡ Some x
      → slice_get (xs ++ ys) (length xs + j) ≡ Some x
  new_at [] ys j x e = let same : 0 + j ≡ j = omega arith in ap (slice_get ys) same ∙ e
  new_at (y ∷ xs) ys j x e =
      ap (slice_get (y ∷ (xs ++ ys))) (next (length xs)) ∙ new_at xs ys j x e
    where
      next : (n : ℕ) → suc n + j ≡ suc (n + j)
      next n = omega arith

  -- a position at which there is something is within the list
  pub at-within : (xs : List X) (i : ℕ) (x : X) → slice_get xs i ≡ Some x → i < length xs
  at-within [] i x e = not_some x e
  at-within (y ∷ xs) zero x e = omega arith
  at-within (y ∷ xs) (suc i) x e = let lt = at-within xs i x e in omega arith

  pub within-at : (xs : List X) (i : ℕ) → i < length xs → (x : X) × (slice_get xs i ≡ Some x)
  within-at [] i lt = absurd (omega arith)
  within-at (y ∷ xs) zero lt = (y, refl)
  within-at (y ∷ xs) (suc i) lt = within-at xs i (omega arith)

  -- what holds of all holds of what is at a position
  pub all_at : (P : X → Type 0) (xs : List X) (i : ℕ) (x : X) → AllByRecursion P xs
      → slice_get xs i ≡ Some x → P x
  all_at P [] i x all e = not_some x e
  all_at P (y ∷ xs) zero x all e = subst P (some_same y x e) all.0
  all_at P (y ∷ xs) (suc i) x all e = all_at P xs i x all.1 e

  -- what is found passes the test
  pub found_passes : (test : X → Bool) (xs : List X) (x : X) → find test xs ≡ Some x
      → test x ≡ true
  found_passes test [] x e = not_some x e
  found_passes test (y ∷ xs) x e = go (test y) refl e (found_passes test xs x)
    where
      go : (b : Bool) → test y ≡ b → cond b (Some y) (find test xs) ≡ Some x
          → (find test xs ≡ Some x → test x ≡ true) → test x ≡ true
      go true t some later = subst (λ z. test z ≡ true) (some_same y x some) t
      go false t some later = later some

  -- where nothing is found, nothing passes
  pub none_passes : (test other : X → Bool) (xs : List X) (x : X) → find test xs ≡ None
      → find other xs ≡ Some x → test x ≡ false
  none_passes test other [] x e f = not_some x f
  none_passes test other (y ∷ xs) x e f =
      go (test y) (other y) refl e f (none_passes test other xs x)
    where
      go : (a b : Bool) → test y ≡ a → cond a (Some y) (find test xs) ≡ None
          → cond b (Some y) (find other xs) ≡ Some x
          → (find test xs ≡ None → find other xs ≡ Some x → test x ≡ false) → test x ≡ false
      go true b t none some later = let no : Some y ≡ None = none in absurd (cc)
      go false true t none some later = subst (λ z. test z ≡ false) (some_same y x some) t
      go false false t none some later = later none some

  -- where one is found, some passes
  pub some_found : (test : X → Bool) (xs : List X) (x : X) → find test xs ≡ Some x
      → list_any test xs ≡ true
  some_found test [] x e = not_some x e
  some_found test (y ∷ xs) x e = go (test y) e (some_found test xs x)
    where
      go : (b : Bool) → cond b (Some y) (find test xs) ≡ Some x
          → (find test xs ≡ Some x → list_any test xs ≡ true) → (b || list_any test xs) ≡ true
      go true e later = refl
      go false e later = later e

  -- where some passes, one is found
  pub any_found : (test : X → Bool) (xs : List X) → list_any test xs ≡ true
      → (x : X) × (find test xs ≡ Some x)
  any_found test [] t = let no : false ≡ true = t in absurd (cc)
  any_found test (y ∷ xs) t = go (test y) t (any_found test xs)
    where
      go : (b : Bool) → (b || list_any test xs) ≡ true
          → (list_any test xs ≡ true → (x : X) × (find test xs ≡ Some x))
          → (x : X) × (cond b (Some y) (find test xs) ≡ Some x)
      go true t later = (y, refl)
      go false t later = later t

  -- what is found and passes another test is kept by that
  pub found_kept : (test other : X → Bool) (xs : List X) (x : X) → find test xs ≡ Some x
      → other x ≡ true → (j : ℕ) × (slice_get (filter other xs) j ≡ Some x)
  found_kept test other [] x e t = not_some x e
  found_kept test other (y ∷ xs) x e t =
      go (test y) (other y) refl e (found_kept test other xs x)
    where
      go : (a b : Bool) → other y ≡ b → cond a (Some y) (find test xs) ≡ Some x
          → (find test xs ≡ Some x → other x ≡ true
          → (j : ℕ) × (slice_get (filter other xs) j ≡ Some x))
          → (j : ℕ) × (slice_get (cond b (y ∷ filter other xs) (filter other xs)) j ≡ Some x)
      go true true s some later = (0, some)
      go true false s some later =
          clash (other x) t (subst (λ z. other z ≡ false) (some_same y x some) s)
      go false true s some later = let p = later some t in (suc p.0, p.1)
      go false false s some later = later some t

module _ {X Y : Type 0} (f : X → Y) where
  -- what is at a position of the images is the image of what is there
  pub map_at : (xs : List X) (i : ℕ) (y : Y) → slice_get (map f xs) i ≡ Some y
      → (x : X) × (slice_get xs i ≡ Some x) × (f x ≡ y)
  map_at [] i y e = not_some y e
  map_at (x ∷ xs) zero y e = (x, refl, some_same (f x) y e)
  map_at (x ∷ xs) (suc i) y e = map_at xs i y e

  pub at_map : (xs : List X) (i : ℕ) (x : X) → slice_get xs i ≡ Some x
      → slice_get (map f xs) i ≡ Some (f x)
  at_map [] i x e = not_some (f x) (not_some x e)
  at_map (z ∷ xs) zero x e = ap (λ w. Some (f w)) (some_same z x e)
  at_map (z ∷ xs) (suc i) x e = at_map xs i x e

-- a test of a name that is among names
pub some_may : (test : List ℕ → Bool) (users : List (List ℕ)) (user : List ℕ)
    → list_any (bytes_eq user) users ≡ true → test user ≡ true → list_any test users ≡ true
some_may test [] user l t = l
some_may test (x ∷ xs) user l t = go (bytes_eq user x) refl l (some_may test xs user)
  where
    go : (b : Bool) → bytes_eq user x ≡ b → (b || list_any (bytes_eq user) xs) ≡ true
        → (list_any (bytes_eq user) xs ≡ true → test user ≡ true → list_any test xs ≡ true)
        → (test x || list_any test xs) ≡ true
    go true s l later =
        or_left (test x) (list_any test xs)
        (subst (λ n. test n ≡ true) ((bytes_eq-Decides user x).0 s) t)
    go false s l later = or_right (test x) (list_any test xs) (later l t)

-- a name that is found is among the names
pub found_among : (test : List ℕ → Bool) (users : List (List ℕ)) (user : List ℕ)
    → find test users ≡ Some user → list_any (bytes_eq user) users ≡ true
found_among test [] user e = not_some user e
found_among test (x ∷ xs) user e = go (test x) e (found_among test xs user)
  where
    go : (b : Bool) → cond b (Some x) (find test xs) ≡ Some user
        → (find test xs ≡ Some user → list_any (bytes_eq user) xs ≡ true)
        → (bytes_eq user x || list_any (bytes_eq user) xs) ≡ true
    go true e later =
        or_left (bytes_eq user x) (list_any (bytes_eq user) xs)
        ((bytes_eq-Decides user x).1 (sym (some_same x user e)))
    go false e later = or_right (bytes_eq user x) (list_any (bytes_eq user) xs) (later e)

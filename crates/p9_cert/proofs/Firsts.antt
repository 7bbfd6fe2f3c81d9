-- The first that there is, and loops that look for it.
use Rattle.std.proofs.Common.{◌≡◌, ℕ, zero, suc, ◌+◌, ◌<◌, Bool, true, false, List}
use Rattle.std.proofs.Common.{[], ◌∷◌, Option, Some, None, refl, sym, ap, ◌∙◌, arith}
use Rattle.std.proofs.Common.{length}
use Rattle.std.proofs.Common.{drop, get_or}
use Rattle.std.specs.Prelude.{slice_get}
use Rattle.std.specs.List.{AllByRecursion}
use Rattle.std.specs.Option.{option_map, option_or}
use Rattle.std.proofs.lemmas.List.{drop_more}
use Rattle.p9_cert.specs.Gap.{first_of, first_counted, where_true}

pub no_or : {X : Type 0} (a b : Option X) → option_or a b ≡ None → (a ≡ None) × (b ≡ None)
no_or None b e = (refl, e)
no_or (Some x) b e = let no : Some x ≡ None = e in absurd (cc)

pub or_none : {X : Type 0} (a b : Option X) → a ≡ None → b ≡ None → option_or a b ≡ None
or_none None b p q = q
or_none (Some x) b p q = let no : Some x ≡ None = p in absurd (cc)

pub no_map : {X Y : Type 0} (f : X → Y) (o : Option X) → option_map f o ≡ None → o ≡ None
no_map f None e = refl
no_map f (Some x) e = let no : Some (f x) ≡ None = e in absurd (cc)

pub no_where : {X : Type 0} (b : Bool) (x : X) → where_true b x ≡ None → b ≡ false
no_where true x e = let no : Some x ≡ None = e in absurd (cc)
no_where false x e = refl

module _ {X Y : Type 0} (f : X → Option Y) where
  pub first_none : (xs : List X) → first_of f xs ≡ None → AllByRecursion (λ x. f x ≡ None) xs
  first_none [] e = tt
  first_none (x ∷ xs) e =
      let parts = no_or (f x) (first_of f xs) e in (parts.0, first_none xs parts.1)

  pub none_first : (xs : List X) → AllByRecursion (λ x. f x ≡ None) xs → first_of f xs ≡ None
  none_first [] all = refl
  none_first (x ∷ xs) all = or_none (f x) (first_of f xs) all.0 (none_first xs all.1)

  -- what is left at a place, with the thing there
  pub first-drop : (xs : List X) (i : ℕ) (x d : X) → i < length xs → x ≡ get_or xs i d
      → first_of f (drop i xs) ≡ option_or (f x) (first_of f (drop (i + 1) xs))
  first-drop xs i x d l at =
      ap (first_of f) (drop_more xs i d l)
      ∙ ap (λ y. option_or (f y) (first_of f (drop (i + 1) xs))) (sym at)

  -- it ends at one
  pub first-found : (xs : List X) (i : ℕ) (x d : X) (y : Y) (o : Option Y) → i < length xs
      → x ≡ get_or xs i d → f x ≡ Some y → first_of f (drop i xs) ≡ o → Some y ≡ o
  first-found xs i x d y o l at some kept =
      sym (first-drop xs i x d l at ∙ ap (λ p. option_or p (first_of f (drop (i + 1) xs))) some)
      ∙ kept

  -- what it begins with, of a thing that is asked for by its place
  pub first-at : (xs : List X) (i : ℕ) (x : X) → slice_get xs i ≡ Some x
      → first_of f (drop i xs) ≡ option_or (f x) (first_of f (drop (i + 1) xs))
  first-at [] i x e = let none : None ≡ Some x = e in absurd (cc)
  first-at (y ∷ ys) zero x e =
      let some : Some y ≡ Some x = e in let same : y ≡ x = cc in
      ap (λ z. option_or (f z) (first_of f ys)) same
  first-at (y ∷ ys) (suc i) x e =
      first-at ys i x e ∙ ap (λ k. option_or (f x) (first_of f (drop k (y ∷ ys)))) (next i)
    where
      next : (k : ℕ) → suc (k + 1) ≡ suc k + 1
      next k = omega arith

-- The same of things that are counted.

module _ {X Y : Type 0} (f : ℕ → X → Option Y) where
  -- what holds of each that is none
  pub counted-none : (P : X → Type 0) → ((k : ℕ) (x : X) → f k x ≡ None → P x)
      → (k : ℕ) (xs : List X)
      → first_counted f k xs ≡ None → AllByRecursion P xs
  counted-none P h k [] e = tt
  counted-none P h k (x ∷ xs) e =
      let parts = no_or (f k x) (first_counted f (k + 1) xs) e in
      (h k x parts.0, counted-none P h (k + 1) xs parts.1)

  pub none-counted : (P : X → Type 0) → ((k : ℕ) (x : X) → P x → f k x ≡ None)
      → (k : ℕ) (xs : List X)
      → AllByRecursion P xs → first_counted f k xs ≡ None
  none-counted P h k [] all = refl
  none-counted P h k (x ∷ xs) all =
      or_none (f k x) (first_counted f (k + 1) xs) (h k x all.0) (none-counted P h (k + 1) xs all.1)

module _ {X Y : Type 0} (f : X → Option Y) (xs : List X) (i : ℕ) (x : X) where
  -- a loop that asks for things by their places goes on
  pub first-at-next : (o : Option Y) → slice_get xs i ≡ Some x → f x ≡ None
      → first_of f (drop i xs) ≡ o → first_of f (drop (i + 1) xs) ≡ o
  first-at-next o at none kept =
      sym (first-at f xs i x at ∙ ap (λ p. option_or p (first_of f (drop (i + 1) xs))) none) ∙ kept

  -- and ends
  pub first-at-found : (y : Y) (o : Option Y) → slice_get xs i ≡ Some x → f x ≡ Some y
      → first_of f (drop i xs) ≡ o → Some y ≡ o
  first-at-found y o at some kept =
      sym (first-at f xs i x at ∙ ap (λ p. option_or p (first_of f (drop (i + 1) xs))) some) ∙ kept

-- a place within a list has a thing
pub none-past : {X : Type 0} (xs : List X) (i : ℕ) → slice_get xs i ≡ None → i < length xs → ⊥
none-past [] i none within = omega arith
none-past (y ∷ ys) zero none within = let no : Some y ≡ None = none in cc
none-past (y ∷ ys) (suc i) none within = none-past ys i none (omega arith)

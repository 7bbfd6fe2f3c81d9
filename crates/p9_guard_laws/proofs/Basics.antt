-- Small facts of lists and of listed users.
use Rattle.std.proofs.Common.{◌≡◌, ℕ, Bool, true, false, List, [], ◌∷◌, refl, subst}
use Rattle.std.specs.List.{AllByRecursion, list_all, list_any}
use Rattle.std.specs.Str.{bytes_eq}
use Rattle.std.proofs.lemmas.Bool.{and_from, and_parts, or_parts}
use Rattle.std.proofs.lemmas.Slice.Eq.{bytes_eq-Decides}
use Rattle.p9_base.specs.User.{is_listed_user}
use Rattle.p9_inside.proofs.Facts.{clash}

pub each_weaker : {X : Type 0} (P Q : X → Type 0) → ((x : X) → P x → Q x) → (xs : List X)
    → AllByRecursion P xs → AllByRecursion Q xs
each_weaker P Q h [] all = tt
each_weaker P Q h (x ∷ xs) all = (h x all.0, each_weaker P Q h xs all.1)

pub each_two : {X : Type 0} (P Q R : X → Type 0) → ((x : X) → P x → Q x → R x) → (xs : List X)
    → AllByRecursion P xs → AllByRecursion Q xs → AllByRecursion R xs
each_two P Q R h [] a b = tt
each_two P Q R h (x ∷ xs) a b = (h x a.0 b.0, each_two P Q R h xs a.1 b.1)

pub each_three : {X : Type 0} (P Q R S : X → Type 0) → ((x : X) → P x → Q x → R x → S x)
    → (xs : List X) → AllByRecursion P xs → AllByRecursion Q xs → AllByRecursion R xs
    → AllByRecursion S xs
each_three P Q R S h [] a b c = tt
each_three P Q R S h (x ∷ xs) a b c = (h x a.0 b.0 c.0, each_three P Q R S h xs a.1 b.1 c.1)

pub each_holds : {X : Type 0} (P : X → Type 0) → ((x : X) → P x) → (xs : List X)
    → AllByRecursion P xs
each_holds P h [] = tt
each_holds P h (x ∷ xs) = (h x, each_holds P h xs)

-- a test of all is a test of each
pub each_passes : {X : Type 0} (p : X → Bool) (xs : List X) → list_all p xs ≡ true
    → AllByRecursion (λ x. p x ≡ true) xs
each_passes p [] e = tt
each_passes p (x ∷ xs) e =
    let parts = and_parts (p x) (list_all p xs) e in (parts.0, each_passes p xs parts.1)

pub all_pass : {X : Type 0} (p : X → Bool) (xs : List X) → AllByRecursion (λ x. p x ≡ true) xs
    → list_all p xs ≡ true
all_pass p [] all = refl
all_pass p (x ∷ xs) all = and_from (p x) (list_all p xs) all.0 (all_pass p xs all.1)

-- what no listed user may, a listed user may not
pub none_may : (p : List ℕ → Bool) (users : List (List ℕ)) (u : List ℕ)
    → is_listed_user users u ≡ true → list_any p users ≡ false → p u ≡ false
none_may p [] u l none = let b : false ≡ true = l in cc
none_may p (v ∷ vs) u l none =
    let parts = or_parts (p v) (list_any p vs) none in
    go (bytes_eq v u) refl parts.0 (λ m. none_may p vs u m parts.1)
  where
    go : (b : Bool) → bytes_eq v u ≡ b → p v ≡ false → (is_listed_user vs u ≡ true → p u ≡ false)
        → p u ≡ false
    go true e here later =
        let same : v ≡ u = (bytes_eq-Decides v u).0 e in subst (λ w. p w ≡ false) same here
    go false e here later = later (rw e at l)

-- what a listed user may, some may
pub some_may : (p : List ℕ → Bool) (users : List (List ℕ)) (u : List ℕ)
    → is_listed_user users u ≡ true → p u ≡ true → list_any p users ≡ true
some_may p users u l may = go (list_any p users) refl
  where
    go : (b : Bool) → list_any p users ≡ b → list_any p users ≡ true
    go true e = e
    go false e = clash (p u) may (none_may p users u l e)

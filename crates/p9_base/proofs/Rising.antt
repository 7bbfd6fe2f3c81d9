-- The numbers of a map still rise after a row is put in, changed or taken out.
use Rattle.std.proofs.Common.{◌≡◌, ℕ, ◌+◌, ◌<◌, ◌≤◌, Bool, true, false, List, [], ◌∷◌, length, refl}
use Rattle.std.proofs.Common.{sym}
use Rattle.std.proofs.Common.{subst, arith, Ordering, Less, Equal, Greater}
use Rattle.std.specs.List.{AllByRecursion}
use Rattle.std.specs.List.Sorted.{IsStrictlySortedBy}
use Rattle.std.specs.Map.{keys_of, remove_entry, set_value}
use Rattle.std.specs.BTreeMap.{insert_entry}
use Rattle.std.specs.Cmp.{nat_cmp_is}
use Rattle.std.specs.Ordering.{nat_cmp}
use Rattle.std.proofs.lemmas.Cmp.{ranked}
use Rattle.std.proofs.lemmas.Map.{keys-set_value}
use Rattle.p9_base.specs.Rising.{IsRising}

below : (x y : ℕ) → nat_cmp x y ≡ Less → x < y
below x y e = ranked x y Less (sym e)

less : (x y : ℕ) → x < y → nat_cmp x y ≡ Less
less x y lt = sym (nat_cmp_is x y Less lt)

-- what is above a number is above a smaller one
all_above : (x y : ℕ) (ks : List ℕ) → x < y → AllByRecursion (λ k. nat_cmp y k ≡ Less) ks
    → AllByRecursion (λ k. nat_cmp x k ≡ Less) ks
all_above x y [] lt all = tt
all_above x y (k ∷ ks) lt all =
    let further : y < k = below y k all.0 in
    (less x k (omega arith), all_above x y ks lt all.1)

module _ {X : Type 0} (P : ℕ → Type 0) where
  -- what holds of each number holds of each after a row is put in
  pub all_keys-insert : (rows : List (ℕ × X)) (k : ℕ) (x : X) → P k
      → AllByRecursion P (keys_of rows) → AllByRecursion P (keys_of (insert_entry nat_cmp rows k x))
  all_keys-insert [] k x new all = (new, tt)
  all_keys-insert (row ∷ rows) k x new all =
      go (nat_cmp k row.0) refl (all_keys-insert rows k x new all.1)
    where
      go : (o : Ordering) → nat_cmp k row.0 ≡ o
          → AllByRecursion P (keys_of (insert_entry nat_cmp rows k x))
          → AllByRecursion P (keys_of (insert_entry nat_cmp (row ∷ rows) k x))
      go Less e later = rw e (new, all)
      go Equal e later = rw e all
      go Greater e later = rw e (all.0, later)

  -- and after one is taken out
  pub all_keys-remove : (test : ℕ → Bool) (rows : List (ℕ × X)) → AllByRecursion P (keys_of rows)
      → AllByRecursion P (keys_of (remove_entry test rows))
  all_keys-remove test [] all = tt
  all_keys-remove test (row ∷ rows) all =
      go (test row.0) refl (all_keys-remove test rows all.1)
    where
      go : (b : Bool) → test row.0 ≡ b → AllByRecursion P (keys_of (remove_entry test rows))
          → AllByRecursion P (keys_of (remove_entry test (row ∷ rows)))
      go true e later = rw e all.1
      go false e later = rw e (all.0, later)

  -- and after one is changed
  pub all_keys-set : (test : ℕ → Bool) (rows : List (ℕ × X)) (x : X)
      → AllByRecursion P (keys_of rows) → AllByRecursion P (keys_of (set_value test rows x))
  all_keys-set test rows x all =
      subst (λ ks. AllByRecursion P ks) (sym (keys-set_value test rows x)) all

module _ {X : Type 0} where
  pub rising-insert : (rows : List (ℕ × X)) (k : ℕ) (x : X) → IsRising rows
      → IsRising (insert_entry nat_cmp rows k x)
  unfolding IsStrictlySortedBy
  rising-insert [] k x rising = (tt, tt)
  rising-insert (row ∷ rows) k x rising =
      go (nat_cmp k row.0) refl (rising-insert rows k x rising.1)
    where
      go : (o : Ordering) → nat_cmp k row.0 ≡ o → IsRising (insert_entry nat_cmp rows k x)
          → IsRising (insert_entry nat_cmp (row ∷ rows) k x)
      go Less e later =
          rw e ((e, all_above k row.0 (keys_of rows) (below k row.0 e) rising.0), rising)
      go Equal e later = rw e rising
      go Greater e later =
          let lt : row.0 < k = ranked k row.0 Greater (sym e) in
          rw e (
            all_keys-insert {X = X} (λ y. nat_cmp row.0 y ≡ Less) rows k x (less row.0 k lt)
                rising.0,
            later,
          )

  pub rising-remove : (test : ℕ → Bool) (rows : List (ℕ × X)) → IsRising rows
      → IsRising (remove_entry test rows)
  unfolding IsStrictlySortedBy
  rising-remove test [] rising = tt
  rising-remove test (row ∷ rows) rising = go (test row.0) refl (rising-remove test rows rising.1)
    where
      go : (b : Bool) → test row.0 ≡ b → IsRising (remove_entry test rows)
          → IsRising (remove_entry test (row ∷ rows))
      go true e later = rw e rising.1
      go false e later =
          rw e (all_keys-remove {X = X} (λ y. nat_cmp row.0 y ≡ Less) test rows rising.0, later)

  pub rising-set : (test : ℕ → Bool) (rows : List (ℕ × X)) (x : X) → IsRising rows
      → IsRising (set_value test rows x)
  rising-set test rows x rising =
      subst (λ ks. IsStrictlySortedBy nat_cmp ks) (sym (keys-set_value test rows x)) rising

  -- one row more at most
  pub length-insert : (rows : List (ℕ × X)) (k : ℕ) (x : X)
      → length (insert_entry nat_cmp rows k x) ≤ length rows + 1
  length-insert [] k x = omega arith
  length-insert (row ∷ rows) k x = go (nat_cmp k row.0) refl (length-insert rows k x)
    where
      go : (o : Ordering) → nat_cmp k row.0 ≡ o
          → length (insert_entry nat_cmp rows k x) ≤ length rows + 1
          → length (insert_entry nat_cmp (row ∷ rows) k x) ≤ length (row ∷ rows) + 1
      go Less e later = rw e (omega arith)
      go Equal e later = rw e (omega arith)
      go Greater e later = rw e (omega (arith, later))

  -- and no more
  pub length-remove : (test : ℕ → Bool) (rows : List (ℕ × X))
      → length (remove_entry test rows) ≤ length rows
  length-remove test [] = omega arith
  length-remove test (row ∷ rows) = go (test row.0) refl (length-remove test rows)
    where
      go : (b : Bool) → test row.0 ≡ b → length (remove_entry test rows) ≤ length rows
          → length (remove_entry test (row ∷ rows)) ≤ length (row ∷ rows)
      go true e later = rw e (omega arith)
      go false e later = rw e (omega (arith, later))

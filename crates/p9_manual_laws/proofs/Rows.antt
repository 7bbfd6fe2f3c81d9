-- What a look-up finds in a map from numbers after a row is changed or taken out.
use Rattle.std.proofs.Common.{◌≡◌, ℕ, ◌+◌, Bool, true, false, List, [], ◌∷◌, Some, None, refl}
use Rattle.std.proofs.Common.{length, sym, subst, arith, Ordering, Less, Equal, Greater}
use Rattle.std.specs.List.{AllByRecursion}
use Rattle.std.specs.List.Sorted.{IsStrictlySortedBy}
use Rattle.std.specs.BTreeMap.{insert_entry, is_at}
use Rattle.std.specs.Map.{keys_of, lookup, remove_entry, set_value}
use Rattle.std.specs.Ordering.{nat_cmp}
use Rattle.std.specs.Cmp.{nat_cmp_is}
use Rattle.std.proofs.lemmas.Cmp.{ranked}
use Rattle.p9_base.specs.Rising.{IsRising}

-- a number that is found is the one that is looked for
pub at_is : (k x : ℕ) → is_at (nat_cmp k) x ≡ true → k ≡ x
at_is k x e = go (nat_cmp k x) refl
  where
    go : (o : Ordering) → nat_cmp k x ≡ o → k ≡ x
    go Less is = let no : false ≡ true = rw is at e in absurd (cc)
    go Equal is = ranked k x Equal (sym is)
    go Greater is = let no : false ≡ true = rw is at e in absurd (cc)

at_itself : (k : ℕ) → is_at (nat_cmp k) k ≡ true
at_itself k = let same : nat_cmp k k ≡ Equal = sym (nat_cmp_is k k Equal refl) in rw same refl

not_at : (j k : ℕ) → (j ≡ k → ⊥) → is_at (nat_cmp j) k ≡ false
not_at j k apart = go (is_at (nat_cmp j) k) refl
  where
    go : (b : Bool) → is_at (nat_cmp j) k ≡ b → is_at (nat_cmp j) k ≡ false
    go true e = absurd (apart (at_is j k e))
    go false e = e

module _ {X : Type 0} where
  -- a row that is changed is found as it is then
  pub lookup-set : (k : ℕ) (rows : List (ℕ × X)) (x y : X)
      → lookup (is_at (nat_cmp k)) rows ≡ Some x
      → lookup (is_at (nat_cmp k)) (set_value (is_at (nat_cmp k)) rows y) ≡ Some y
  lookup-set k [] x y found = let none : None ≡ Some x = found in absurd (cc)
  lookup-set k (row ∷ rows) x y found =
      go (is_at (nat_cmp k) row.0) refl (lookup-set k rows x y)
    where
      go : (b : Bool) → is_at (nat_cmp k) row.0 ≡ b
          → (lookup (is_at (nat_cmp k)) rows ≡ Some x
          → lookup (is_at (nat_cmp k)) (set_value (is_at (nat_cmp k)) rows y) ≡ Some y)
          → lookup (is_at (nat_cmp k)) (set_value (is_at (nat_cmp k)) (row ∷ rows) y) ≡ Some y
      go true e later = rw (e, e) refl
      go false e later =
          let there : lookup (is_at (nat_cmp k)) rows ≡ Some x = rw e at found in
          rw (e, e) (later there)

  -- and the others as before
  pub lookup-set_other : (j k : ℕ) (rows : List (ℕ × X)) (y : X) → (j ≡ k → ⊥)
      → lookup (is_at (nat_cmp j)) (set_value (is_at (nat_cmp k)) rows y)
      ≡ lookup (is_at (nat_cmp j)) rows
  lookup-set_other j k [] y apart = refl
  lookup-set_other j k (row ∷ rows) y apart =
      go (is_at (nat_cmp k) row.0) refl (lookup-set_other j k rows y apart)
    where
      further : (b : Bool) → is_at (nat_cmp j) row.0 ≡ b
          → lookup (is_at (nat_cmp j)) (set_value (is_at (nat_cmp k)) rows y)
          ≡ lookup (is_at (nat_cmp j)) rows
          → lookup (is_at (nat_cmp j)) (row ∷ set_value (is_at (nat_cmp k)) rows y)
          ≡ lookup (is_at (nat_cmp j)) (row ∷ rows)
      further true e later = rw e refl
      further false e later = rw e later

      go : (b : Bool) → is_at (nat_cmp k) row.0 ≡ b
          → lookup (is_at (nat_cmp j)) (set_value (is_at (nat_cmp k)) rows y)
          ≡ lookup (is_at (nat_cmp j)) rows
          → lookup (is_at (nat_cmp j)) (set_value (is_at (nat_cmp k)) (row ∷ rows) y)
          ≡ lookup (is_at (nat_cmp j)) (row ∷ rows)
      go true e later =
          let here : k ≡ row.0 = at_is k row.0 e in
          let past : is_at (nat_cmp j) row.0 ≡ false = not_at j row.0 (λ same. apart (cc)) in
          rw (e, past) refl
      go false e later = rw e (further (is_at (nat_cmp j) row.0) refl later)

  -- a row that is put in is found
  pub lookup-inserted : (k : ℕ) (rows : List (ℕ × X)) (x : X)
      → lookup (is_at (nat_cmp k)) (insert_entry nat_cmp rows k x) ≡ Some x
  lookup-inserted k [] x = rw (at_itself k) refl
  lookup-inserted k (row ∷ rows) x = go (nat_cmp k row.0) refl (lookup-inserted k rows x)
    where
      go : (o : Ordering) → nat_cmp k row.0 ≡ o
          → lookup (is_at (nat_cmp k)) (insert_entry nat_cmp rows k x) ≡ Some x
          → lookup (is_at (nat_cmp k)) (insert_entry nat_cmp (row ∷ rows) k x) ≡ Some x
      go Less e later = rw e (rw (at_itself k) refl)
      go Equal e later = rw (e, e) refl
      go Greater e later = rw (e, e) later

  -- no row has a number that is below all of theirs
  absent_below : (k : ℕ) (rows : List (ℕ × X))
      → AllByRecursion (λ j. nat_cmp k j ≡ Less) (keys_of rows)
      → lookup (is_at (nat_cmp k)) rows ≡ None
  absent_below k [] below = refl
  absent_below k (row ∷ rows) below = rw (below.0) (absent_below k rows below.1)

  -- a row that is taken out is not found, where the numbers rise
  pub lookup-removed : (k : ℕ) (rows : List (ℕ × X)) → IsRising rows
      → lookup (is_at (nat_cmp k)) (remove_entry (is_at (nat_cmp k)) rows) ≡ None
  unfolding IsStrictlySortedBy
  lookup-removed k [] rising = refl
  lookup-removed k (row ∷ rows) rising =
      go (is_at (nat_cmp k) row.0) refl (lookup-removed k rows rising.1)
    where
      go : (b : Bool) → is_at (nat_cmp k) row.0 ≡ b
          → lookup (is_at (nat_cmp k)) (remove_entry (is_at (nat_cmp k)) rows) ≡ None
          → lookup (is_at (nat_cmp k)) (remove_entry (is_at (nat_cmp k)) (row ∷ rows)) ≡ None
      go true e later =
          let same : row.0 ≡ k = sym (at_is k row.0 e) in
          let below : AllByRecursion (λ j. nat_cmp k j ≡ Less) (keys_of rows) =
          subst (λ (m : ℕ). AllByRecursion (λ j. nat_cmp m j ≡ Less) (keys_of rows)) same rising.0
          in
          rw e (absent_below k rows below)
      go false e later = rw (e, e) later

  -- and there is one row less
  pub length-removed : (k : ℕ) (rows : List (ℕ × X)) (x : X)
      → lookup (is_at (nat_cmp k)) rows ≡ Some x
      → length rows ≡ length (remove_entry (is_at (nat_cmp k)) rows) + 1
  length-removed k [] x found = let none : None ≡ Some x = found in absurd (cc)
  length-removed k (row ∷ rows) x found =
      go (is_at (nat_cmp k) row.0) refl (length-removed k rows x)
    where
      go : (b : Bool) → is_at (nat_cmp k) row.0 ≡ b
          → (lookup (is_at (nat_cmp k)) rows ≡ Some x
          → length rows ≡ length (remove_entry (is_at (nat_cmp k)) rows) + 1)
          → length (row ∷ rows) ≡ length (remove_entry (is_at (nat_cmp k)) (row ∷ rows)) + 1
      go true e later = rw e (omega arith)
      go false e later =
          let there : lookup (is_at (nat_cmp k)) rows ≡ Some x = rw e at found in
          let fewer = later there in
          rw e (omega (arith, fewer))

-- What holds of each row of a map from numbers, by its number and its value, holds after a row is
-- put in, changed or taken out.
use Rattle.std.proofs.Common.{◌≡◌, ℕ, Bool, true, false, List, [], ◌∷◌, Some, None, refl, subst, sym}
use Rattle.std.proofs.Common.{Ordering, Less, Equal, Greater}
use Rattle.std.specs.List.{AllByRecursion}
use Rattle.std.specs.List.Sorted.{IsStrictlySortedBy}
use Rattle.std.specs.BTreeMap.{insert_entry, is_at}
use Rattle.std.specs.Cmp.{nat_cmp_is}
use Rattle.std.specs.Map.{keys_of, lookup, remove_entry, set_value}
use Rattle.std.specs.Ordering.{nat_cmp}
use Rattle.std.proofs.lemmas.Cmp.{ranked}
use Rattle.p9_base.specs.Rising.{IsRising}

-- a number that is found is the one that is looked for
at-is : (k x : ℕ) → is_at (nat_cmp k) x ≡ true → k ≡ x
at-is k x e = go (nat_cmp k x) refl
  where
    go : (o : Ordering) → nat_cmp k x ≡ o → k ≡ x
    go Less is = let no : false ≡ true = rw is at e in absurd (cc)
    go Equal is = ranked k x Equal (sym is)
    go Greater is = let no : false ≡ true = rw is at e in absurd (cc)

-- and it is found
at-itself : (k : ℕ) → is_at (nat_cmp k) k ≡ true
at-itself k = let same : nat_cmp k k ≡ Equal = sym (nat_cmp_is k k Equal refl) in rw same refl

module _ {X : Type 0} (Q : ℕ → X → Type 0) where
  -- it holds of each row
  abbrev pub EachRow : List (ℕ × X) → Type 0
  EachRow rows = AllByRecursion (λ row. Q row.0 row.1) rows

  pub row-insert : (rows : List (ℕ × X)) (k : ℕ) (x : X) → Q k x → EachRow rows
      → EachRow (insert_entry nat_cmp rows k x)
  row-insert [] k x new each = (new, tt)
  row-insert (row ∷ rows) k x new each =
      go (nat_cmp k row.0) refl (row-insert rows k x new each.1)
    where
      go : (o : Ordering) → nat_cmp k row.0 ≡ o → EachRow (insert_entry nat_cmp rows k x)
          → EachRow (insert_entry nat_cmp (row ∷ rows) k x)
      go Less e later = rw e (new, each)
      go Equal e later =
          let same : k ≡ row.0 = ranked k row.0 Equal (sym e) in
          let here : Q row.0 x = subst (λ (j : ℕ). Q j x) same new in
          rw e (here, each.1)
      go Greater e later = rw e (each.0, later)

  pub row-set : (rows : List (ℕ × X)) (k : ℕ) (x : X) → Q k x → EachRow rows
      → EachRow (set_value (is_at (nat_cmp k)) rows x)
  row-set [] k x new each = each
  row-set (row ∷ rows) k x new each =
      go (is_at (nat_cmp k) row.0) refl (row-set rows k x new each.1)
    where
      go : (b : Bool) → is_at (nat_cmp k) row.0 ≡ b
          → EachRow (set_value (is_at (nat_cmp k)) rows x)
          → EachRow (set_value (is_at (nat_cmp k)) (row ∷ rows) x)
      go true e later =
          let here : Q row.0 x = subst (λ (j : ℕ). Q j x) (at-is k row.0 e) new in
          rw e (here, each.1)
      go false e later = rw e (each.0, later)

  pub row-remove : (rows : List (ℕ × X)) (test : ℕ → Bool) → EachRow rows
      → EachRow (remove_entry test rows)
  row-remove [] test each = each
  row-remove (row ∷ rows) test each = go (test row.0) refl (row-remove rows test each.1)
    where
      go : (b : Bool) → test row.0 ≡ b → EachRow (remove_entry test rows)
          → EachRow (remove_entry test (row ∷ rows))
      go true e later = rw e each.1
      go false e later = rw e (each.0, later)

  pub row-lookup : (rows : List (ℕ × X)) (k : ℕ) (x : X) → EachRow rows
      → lookup (is_at (nat_cmp k)) rows ≡ Some x → Q k x
  row-lookup [] k x each found = let none : None ≡ Some x = found in absurd (cc)
  row-lookup (row ∷ rows) k x each found =
      go (is_at (nat_cmp k) row.0) refl (row-lookup rows k x each.1)
    where
      go : (b : Bool) → is_at (nat_cmp k) row.0 ≡ b
          → (lookup (is_at (nat_cmp k)) rows ≡ Some x → Q k x) → Q k x
      go true e later =
          let here : Some row.1 ≡ Some x = rw e at found in
          let same : row.1 ≡ x = cc in
          let its : Q row.0 x = subst (λ (y : X). Q row.0 y) same each.0 in
          subst (λ (j : ℕ). Q j x) (sym (at-is k row.0 e)) its
      go false e later =
          let there : lookup (is_at (nat_cmp k)) rows ≡ Some x = rw e at found in later there

-- no row has a number that is below all of theirs
absent-below : {X : Type 0} (k : ℕ) (rows : List (ℕ × X))
    → AllByRecursion (λ j. nat_cmp k j ≡ Less) (keys_of rows)
    → lookup (is_at (nat_cmp k)) rows ≡ None
absent-below k [] below = refl
absent-below k (row ∷ rows) below = rw (below.0) (absent-below k rows below.1)

-- where the numbers rise, what holds of the row that is found holds of each row of its number
pub row-found : {X : Type 0} (P : X → Type 0) (k : ℕ) (rows : List (ℕ × X)) → IsRising rows
    → ((x : X) → lookup (is_at (nat_cmp k)) rows ≡ Some x → P x)
    → EachRow (λ j x. j ≡ k → P x) rows
unfolding IsStrictlySortedBy
row-found P k [] rising holds = tt
row-found P k (row ∷ rows) rising holds = (here, row-found P k rows rising.1 later)
  where
    here : row.0 ≡ k → P row.1
    here same =
        let found : is_at (nat_cmp k) row.0 ≡ true =
        subst (λ (j : ℕ). is_at (nat_cmp k) j ≡ true) (sym same) (at-itself k) in
        holds row.1 (rw found refl)

    later : (x : _) → lookup (is_at (nat_cmp k)) rows ≡ Some x → P x
    later x there = go (is_at (nat_cmp k) row.0) refl
      where
        go : (b : Bool) → is_at (nat_cmp k) row.0 ≡ b → P x
        go true e =
            let below : AllByRecursion (λ j. nat_cmp k j ≡ Less) (keys_of rows) =
            subst (λ (m : ℕ). AllByRecursion (λ j. nat_cmp m j ≡ Less) (keys_of rows))
            (sym (at-is k row.0 e)) rising.0 in
            let none : lookup (is_at (nat_cmp k)) rows ≡ None = absent-below k rows below in
            let no : None ≡ Some x = rw none at there in
            absurd (cc)
        go false e = holds x (rw e there)

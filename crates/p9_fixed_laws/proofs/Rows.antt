-- The row of a number in a map from numbers, after a row is put in, changed or taken out.
use Rattle.std.proofs.Common.{◌≡◌, ◌≢◌, ℕ, Bool, true, false, List, [], ◌∷◌, Some, None, refl, sym}
use Rattle.std.proofs.Common.{subst, arith, Ordering, Less, Equal, Greater}
use Rattle.std.specs.Prelude.{◌==◌}
use Rattle.std.specs.BTreeMap.{is_at}
use Rattle.std.specs.Cmp.{nat_cmp_is, ranked}
use Rattle.std.specs.List.{AllByRecursion}
use Rattle.std.specs.List.Sorted.{IsStrictlySortedBy}
use Rattle.std.specs.Map.{keys_of, lookup, remove_entry, set_value}
use Rattle.std.specs.Ordering.{nat_cmp}
use Rattle.std.proofs.lemmas.Bool.Decides.{nat_tests}
use Rattle.p9_base.specs.Rising.{IsRising}
use Rattle.p9_inside.proofs.Facts.{clash}

-- a number is found as itself
pub at_self : (k : ℕ) → is_at (nat_cmp k) k ≡ true
at_self k = let same : nat_cmp k k ≡ Equal = sym (nat_cmp_is k k Equal refl) in rw same refl

-- and no other number is
at_is : (k j : ℕ) → is_at (nat_cmp k) j ≡ true → k ≡ j
at_is k j e = go (nat_cmp k j) refl
  where
    go : (o : Ordering) → nat_cmp k j ≡ o → k ≡ j
    go Less is = let no : false ≡ true = rw is at e in absurd (cc)
    go Equal is = ranked k j Equal (sym is)
    go Greater is = let no : false ≡ true = rw is at e in absurd (cc)

pub apart : (j k : ℕ) → (k == j) ≡ false → nat_cmp j k ≢ Equal
apart j k other =
    λ same. let one : j ≡ k = ranked j k Equal (sym same) in
    let both : (k == j) ≡ true = grind (arith, nat_tests) in clash (k == j) both other

module _ {X : Type 0} (k : ℕ) where
  -- what is set is there
  pub lookup-set : (rows : List (ℕ × X)) (v w : X) → lookup (is_at (nat_cmp k)) rows ≡ Some v
      → lookup (is_at (nat_cmp k)) (set_value (is_at (nat_cmp k)) rows w) ≡ Some w
  lookup-set [] v w found = let no : None ≡ Some v = found in absurd (cc)
  lookup-set (row ∷ rows) v w found = go (is_at (nat_cmp k) row.0) refl (lookup-set rows v w)
    where
      go : (b : Bool) → is_at (nat_cmp k) row.0 ≡ b
          → (lookup (is_at (nat_cmp k)) rows ≡ Some v
          → lookup (is_at (nat_cmp k)) (set_value (is_at (nat_cmp k)) rows w) ≡ Some w)
          → lookup (is_at (nat_cmp k)) (set_value (is_at (nat_cmp k)) (row ∷ rows) w) ≡ Some w
      go true e later = rw (e, e) refl
      go false e later =
          let further : lookup (is_at (nat_cmp k)) rows ≡ Some v = rw e at found in
          rw (e, e) (later further)

  below_absent : (rows : List (ℕ × X))
      → AllByRecursion (λ j. nat_cmp k j ≡ Less) (keys_of rows)
      → lookup (is_at (nat_cmp k)) rows ≡ None
  below_absent [] below = refl
  below_absent (row ∷ rows) below = rw (below.0) (below_absent rows below.1)

  -- what is taken out is not there, where the numbers rise
  pub lookup-removed : (rows : List (ℕ × X)) → IsRising rows
      → lookup (is_at (nat_cmp k)) (remove_entry (is_at (nat_cmp k)) rows) ≡ None
  unfolding IsStrictlySortedBy
  lookup-removed [] rising = refl
  lookup-removed (row ∷ rows) rising =
      go (is_at (nat_cmp k) row.0) refl (lookup-removed rows rising.1)
    where
      go : (b : Bool) → is_at (nat_cmp k) row.0 ≡ b
          → lookup (is_at (nat_cmp k)) (remove_entry (is_at (nat_cmp k)) rows) ≡ None
          → lookup (is_at (nat_cmp k)) (remove_entry (is_at (nat_cmp k)) (row ∷ rows)) ≡ None
      go true e later =
          let below : AllByRecursion (λ j. nat_cmp k j ≡ Less) (keys_of rows) =
          subst (λ (m : ℕ). AllByRecursion (λ j. nat_cmp m j ≡ Less) (keys_of rows))
          (sym (at_is k row.0 e)) rising.0 in
          rw e (below_absent rows below)
      go false e later = rw (e, e) later

module _ (j k : ℕ) (other : nat_cmp j k ≢ Equal) where
  not_both : (i : ℕ) → is_at (nat_cmp k) i ≡ true → is_at (nat_cmp j) i ≡ false
  not_both i e = go (nat_cmp j k) refl
    where
      same : k ≡ i
      same = at_is k i e

      go : (o : Ordering) → nat_cmp j k ≡ o → is_at (nat_cmp j) i ≡ false
      go Less is = let here : is_at (nat_cmp j) k ≡ false = rw is refl in
          subst (λ (m : ℕ). is_at (nat_cmp j) m ≡ false) same here
      go Equal is = absurd (other is)
      go Greater is = let here : is_at (nat_cmp j) k ≡ false = rw is refl in
          subst (λ (m : ℕ). is_at (nat_cmp j) m ≡ false) same here

  module _ {X : Type 0} where
    -- another row is there as before
    pub set-beside : (rows : List (ℕ × X)) (w : X)
        → lookup (is_at (nat_cmp j)) (set_value (is_at (nat_cmp k)) rows w)
        ≡ lookup (is_at (nat_cmp j)) rows
    set-beside [] w = refl
    set-beside (row ∷ rows) w = go (is_at (nat_cmp k) row.0) refl (set-beside rows w)
      where
        kept : (b : Bool) → is_at (nat_cmp j) row.0 ≡ b
            → lookup (is_at (nat_cmp j)) (set_value (is_at (nat_cmp k)) rows w)
            ≡ lookup (is_at (nat_cmp j)) rows
            → lookup (is_at (nat_cmp j)) (row ∷ set_value (is_at (nat_cmp k)) rows w)
            ≡ lookup (is_at (nat_cmp j)) (row ∷ rows)
        kept true f later = rw f refl
        kept false f later = rw f later

        go : (b : Bool) → is_at (nat_cmp k) row.0 ≡ b
            → lookup (is_at (nat_cmp j)) (set_value (is_at (nat_cmp k)) rows w)
            ≡ lookup (is_at (nat_cmp j)) rows
            → lookup (is_at (nat_cmp j)) (set_value (is_at (nat_cmp k)) (row ∷ rows) w)
            ≡ lookup (is_at (nat_cmp j)) (row ∷ rows)
        go true e later = rw (e, not_both row.0 e) refl
        go false e later = rw e (kept (is_at (nat_cmp j) row.0) refl later)

    pub remove-beside : (rows : List (ℕ × X))
        → lookup (is_at (nat_cmp j)) (remove_entry (is_at (nat_cmp k)) rows)
        ≡ lookup (is_at (nat_cmp j)) rows
    remove-beside [] = refl
    remove-beside (row ∷ rows) = go (is_at (nat_cmp k) row.0) refl (remove-beside rows)
      where
        kept : (b : Bool) → is_at (nat_cmp j) row.0 ≡ b
            → lookup (is_at (nat_cmp j)) (remove_entry (is_at (nat_cmp k)) rows)
            ≡ lookup (is_at (nat_cmp j)) rows
            → lookup (is_at (nat_cmp j)) (row ∷ remove_entry (is_at (nat_cmp k)) rows)
            ≡ lookup (is_at (nat_cmp j)) (row ∷ rows)
        kept true f later = rw f refl
        kept false f later = rw f later

        go : (b : Bool) → is_at (nat_cmp k) row.0 ≡ b
            → lookup (is_at (nat_cmp j)) (remove_entry (is_at (nat_cmp k)) rows)
            ≡ lookup (is_at (nat_cmp j)) rows
            → lookup (is_at (nat_cmp j)) (remove_entry (is_at (nat_cmp k)) (row ∷ rows))
            ≡ lookup (is_at (nat_cmp j)) (row ∷ rows)
        go true e later = rw (e, not_both row.0 e) refl
        go false e later = rw e (kept (is_at (nat_cmp j) row.0) refl later)

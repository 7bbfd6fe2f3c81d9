-- What holds of each row of a map holds after a row is put in, changed or taken out.
use Rattle.std.proofs.Common.{◌≡◌, ℕ, Bool, true, false, List, [], ◌∷◌, Some, None, refl, ap, subst}
use Rattle.std.proofs.Common.{Ordering, Less, Equal, Greater}
use Rattle.std.specs.List.{AllByRecursion}
use Rattle.std.specs.Map.{lookup, remove_entry, set_value}
use Rattle.std.specs.BTreeMap.{insert_entry}

module _ {X : Type 0} (P : X → Type 0) where
  -- it holds of each row
  abbrev pub Each : List (ℕ × X) → Type 0
  Each rows = AllByRecursion (λ row. P row.1) rows

  pub each-insert : (cmp : ℕ → ℕ → Ordering) (rows : List (ℕ × X)) (k : ℕ) (x : X) → P x → Each rows
      → Each (insert_entry cmp rows k x)
  each-insert cmp [] k x new each = (new, tt)
  each-insert cmp (row ∷ rows) k x new each =
      go (cmp k row.0) refl (each-insert cmp rows k x new each.1)
    where
      go : (o : Ordering) → cmp k row.0 ≡ o → Each (insert_entry cmp rows k x)
          → Each (insert_entry cmp (row ∷ rows) k x)
      go Less e later = rw e (new, each)
      go Equal e later = rw e (new, each.1)
      go Greater e later = rw e (each.0, later)

  pub each-set : (test : ℕ → Bool) (rows : List (ℕ × X)) (x : X) → P x → Each rows
      → Each (set_value test rows x)
  each-set test [] x new each = each
  each-set test (row ∷ rows) x new each = go (test row.0) refl (each-set test rows x new each.1)
    where
      go : (b : Bool) → test row.0 ≡ b → Each (set_value test rows x)
          → Each (set_value test (row ∷ rows) x)
      go true e later = rw e (new, each.1)
      go false e later = rw e (each.0, later)

  pub each-remove : (test : ℕ → Bool) (rows : List (ℕ × X)) → Each rows
      → Each (remove_entry test rows)
  each-remove test [] each = each
  each-remove test (row ∷ rows) each = go (test row.0) refl (each-remove test rows each.1)
    where
      go : (b : Bool) → test row.0 ≡ b → Each (remove_entry test rows)
          → Each (remove_entry test (row ∷ rows))
      go true e later = rw e each.1
      go false e later = rw e (each.0, later)

  pub each-lookup : (test : ℕ → Bool) (rows : List (ℕ × X)) (x : X) → Each rows
      → lookup test rows ≡ Some x → P x
  each-lookup test [] x each found = let none : None ≡ Some x = found in absurd (cc)
  each-lookup test (row ∷ rows) x each found = go (test row.0) refl (each-lookup test rows x each.1)
    where
      go : (b : Bool) → test row.0 ≡ b → (lookup test rows ≡ Some x → P x) → P x
      go true e later =
          let here : Some row.1 ≡ Some x = rw e at found in let same : row.1 ≡ x = cc in
          subst P same each.0
      go false e later = let there : lookup test rows ≡ Some x = rw e at found in later there

-- to put a session where it is changes nothing
pub set_value-same : {X : Type 0} (t : ℕ → Bool) (rows : List (ℕ × X)) (x : X)
    → lookup t rows ≡ Some x → set_value t rows x ≡ rows
set_value-same t [] x found = refl
set_value-same t (row ∷ rows) x found = go (t row.0) refl (set_value-same t rows x)
  where
    go : (b : Bool) → t row.0 ≡ b → (lookup t rows ≡ Some x → set_value t rows x ≡ rows)
        → set_value t (row ∷ rows) x ≡ row ∷ rows
    go true e later =
        let is : Some row.1 ≡ Some x = rw e at found in let same : x ≡ row.1 = cc in
        rw e (ap (λ v. (row.0, v) ∷ rows) same)
    go false e later =
        let further : lookup t rows ≡ Some x = rw e at found in
        rw e (ap (λ r. row ∷ r) (later further))

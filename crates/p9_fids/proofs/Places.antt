-- The place of a fid that is added, and taken out again or changed.
use Rattle.std.proofs.Common.{◌≡◌, ◌≢◌, ◌∙◌, ℕ, cond, List, [], ◌∷◌, Some, None, refl, sym, ap}
use Rattle.std.proofs.Common.{Ordering, Less, Equal, Greater}
use Rattle.std.specs.Map.{lookup, remove_entry, set_value}
use Rattle.std.specs.Ordering.{nat_cmp}
use Rattle.std.specs.BTreeMap.{insert_entry, is_at}
use Rattle.std.specs.Cmp.{nat_cmp_is, ranked}

-- a number is equal to itself alone
same : (k : ℕ) → nat_cmp k k ≡ Equal
same k = sym (nat_cmp_is k k Equal refl)

module _ {X : Type 0} (k : ℕ) where
  -- what is added is there
  pub lookup-added : (rows : List (ℕ × X)) (x : X) → lookup (is_at (nat_cmp k)) rows ≡ None
      → lookup (is_at (nat_cmp k)) (insert_entry nat_cmp rows k x) ≡ Some x
  lookup-added [] x absent = rw (same k) refl
  lookup-added (row ∷ rows) x absent = go (lookup-added rows x) (nat_cmp k row.0) refl
    where
      go : (lookup (is_at (nat_cmp k)) rows ≡ None
          → lookup (is_at (nat_cmp k)) (insert_entry nat_cmp rows k x) ≡ Some x)
          → (o : Ordering) → nat_cmp k row.0 ≡ o
          → lookup (is_at (nat_cmp k)) (insert_entry nat_cmp (row ∷ rows) k x) ≡ Some x
      go later Less e = rw (e, same k) refl
      go later Equal e = let no : Some row.1 ≡ None = rw e at absent in absurd (cc)
      go later Greater e = rw (e, e) (later (rw e at absent))

  -- without it all is as before
  pub remove-added : (rows : List (ℕ × X)) (x : X) → lookup (is_at (nat_cmp k)) rows ≡ None
      → remove_entry (is_at (nat_cmp k)) (insert_entry nat_cmp rows k x) ≡ rows
  remove-added [] x absent = rw (same k) refl
  remove-added (row ∷ rows) x absent = go (remove-added rows x) (nat_cmp k row.0) refl
    where
      go : (lookup (is_at (nat_cmp k)) rows ≡ None
          → remove_entry (is_at (nat_cmp k)) (insert_entry nat_cmp rows k x) ≡ rows)
          → (o : Ordering) → nat_cmp k row.0 ≡ o
          → remove_entry (is_at (nat_cmp k)) (insert_entry nat_cmp (row ∷ rows) k x) ≡ row ∷ rows
      go later Less e = rw (e, same k) refl
      go later Equal e = let no : Some row.1 ≡ None = rw e at absent in absurd (cc)
      go later Greater e = rw (e, e) (ap (λ rest. row ∷ rest) (later (rw e at absent)))

  -- changed, it is added as that
  pub set-added : (rows : List (ℕ × X)) (x y : X) → lookup (is_at (nat_cmp k)) rows ≡ None
      → set_value (is_at (nat_cmp k)) (insert_entry nat_cmp rows k x) y
      ≡ insert_entry nat_cmp rows k y
  set-added [] x y absent = rw (same k) refl
  set-added (row ∷ rows) x y absent = go (set-added rows x y) (nat_cmp k row.0) refl
    where
      go : (lookup (is_at (nat_cmp k)) rows ≡ None
          → set_value (is_at (nat_cmp k)) (insert_entry nat_cmp rows k x) y
          ≡ insert_entry nat_cmp rows k y)
          → (o : Ordering) → nat_cmp k row.0 ≡ o
          → set_value (is_at (nat_cmp k)) (insert_entry nat_cmp (row ∷ rows) k x) y
          ≡ insert_entry nat_cmp (row ∷ rows) k y
      go later Less e = rw (e, same k) refl
      go later Equal e = let no : Some row.1 ≡ None = rw e at absent in absurd (cc)
      go later Greater e = rw (e, e) (ap (λ rest. row ∷ rest) (later (rw e at absent)))

  -- any other is there as before
  pub lookup-beside : (j : ℕ) (rows : List (ℕ × X)) (x : X) → nat_cmp j k ≢ Equal
      → lookup (is_at (nat_cmp j)) (insert_entry nat_cmp rows k x)
      ≡ lookup (is_at (nat_cmp j)) rows
  lookup-beside j [] x other = skip (nat_cmp j k) refl
    where
      skip : (o : Ordering) → nat_cmp j k ≡ o
          → lookup (is_at (nat_cmp j)) ((k, x) ∷ []) ≡ None
      skip Less e = rw e refl
      skip Equal e = absurd (other e)
      skip Greater e = rw e refl
  lookup-beside j (row ∷ rows) x other = go (lookup-beside j rows x other) (nat_cmp k row.0) refl
    where
      skip : (y : X) (rest : List (ℕ × X)) (o : Ordering) → nat_cmp j k ≡ o
          → lookup (is_at (nat_cmp j)) ((k, y) ∷ rest) ≡ lookup (is_at (nat_cmp j)) rest
      skip y rest Less e = rw e refl
      skip y rest Equal e = absurd (other e)
      skip y rest Greater e = rw e refl

      at_key : (key : ℕ) → key ≡ k
          → lookup (is_at (nat_cmp j)) ((key, x) ∷ rows)
          ≡ lookup (is_at (nat_cmp j)) ((key, row.1) ∷ rows)
      at_key key its =
          rw its (skip x rows (nat_cmp j k) refl ∙ sym (skip row.1 rows (nat_cmp j k) refl))

      go : lookup (is_at (nat_cmp j)) (insert_entry nat_cmp rows k x)
          ≡ lookup (is_at (nat_cmp j)) rows
          → (o : Ordering) → nat_cmp k row.0 ≡ o
          → lookup (is_at (nat_cmp j)) (insert_entry nat_cmp (row ∷ rows) k x)
          ≡ lookup (is_at (nat_cmp j)) (row ∷ rows)
      go later Less e = rw e (skip x (row ∷ rows) (nat_cmp j k) refl)
      go later Equal e = rw e (at_key row.0 (sym (ranked k row.0 Equal (sym e))))
      go later Greater e =
          rw e (ap (cond (is_at (nat_cmp j) row.0) (Some row.1)) later)

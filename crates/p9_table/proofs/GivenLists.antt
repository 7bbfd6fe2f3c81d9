-- What passes a test in parts of lists, and in entries that are put in or taken out.
use Rattle.std.proofs.Common.{◌≡◌, ℕ, zero, suc, Bool, true, false, cond, List, [], ◌∷◌, ◌++◌, Some}
use Rattle.std.proofs.Common.{None, take, drop, remove, refl, sym, ap, ◌∙◌}
use Rattle.std.specs.Prelude.{◌&&◌, slice_index_or}
use Rattle.std.specs.List.{list_all}
use Rattle.std.specs.Map.{lookup, remove_entry}
use Rattle.std.proofs.lemmas.Bool.{and_from, and_parts}
use Rattle.std.proofs.lemmas.List.Folds.{list_all-append}
use Rattle.indexmap.specs.IndexMap.{insert_entry}

module _ {X : Type 0} (p : X → Bool) where
  pub all-cons : (x : X) (xs : List X) → p x ≡ true → list_all p xs ≡ true
      → list_all p (x ∷ xs) ≡ true
  all-cons x xs first rest = and_from (p x) (list_all p xs) first rest

  pub all-append : (xs ys : List X) → list_all p xs ≡ true → list_all p ys ≡ true
      → list_all p (xs ++ ys) ≡ true
  all-append xs ys front back =
      list_all-append p xs ys ∙ and_from (list_all p xs) (list_all p ys) front back

  pub all-take : (n : ℕ) (xs : List X) → list_all p xs ≡ true → list_all p (take n xs) ≡ true
  all-take zero xs all = refl
  all-take (suc n) [] all = refl
  all-take (suc n) (x ∷ xs) all =
      let parts = and_parts (p x) (list_all p xs) all in
      and_from (p x) (list_all p (take n xs)) parts.0 (all-take n xs parts.1)

  pub all-drop : (n : ℕ) (xs : List X) → list_all p xs ≡ true → list_all p (drop n xs) ≡ true
  all-drop zero xs all = all
  all-drop (suc n) [] all = refl
  all-drop (suc n) (x ∷ xs) all = all-drop n xs (and_parts (p x) (list_all p xs) all).1

  pub all-remove : (xs : List X) (i : ℕ) → list_all p xs ≡ true → list_all p (remove xs i) ≡ true
  all-remove xs i all =
      all-append (take i xs) (drop (suc i) xs) (all-take i xs all) (all-drop (suc i) xs all)

  -- one of them, or the value that stands for none
  pub all-index_or : (xs : List X) (i : ℕ) (d : X) → list_all p xs ≡ true → p d ≡ true
      → p (slice_index_or xs i d) ≡ true
  all-index_or [] i d all other = other
  all-index_or (x ∷ xs) zero d all other = (and_parts (p x) (list_all p xs) all).0
  all-index_or (x ∷ xs) (suc i) d all other =
      all-index_or xs i d (and_parts (p x) (list_all p xs) all).1 other

module _ {K V : Type 0} (p : K × V → Bool) where
  -- without an entry
  pub all-remove_entry : (test : K → Bool) (es : List (K × V)) → list_all p es ≡ true
      → list_all p (remove_entry test es) ≡ true
  all-remove_entry test [] all = refl
  all-remove_entry test (e ∷ es) all =
      by (test e.0) (and_parts (p e) (list_all p es) all) (all-remove_entry test es)
    where
      by : (b : Bool) → (p e ≡ true) × (list_all p es ≡ true)
          → (list_all p es ≡ true → list_all p (remove_entry test es) ≡ true)
          → list_all p (cond b es (e ∷ remove_entry test es)) ≡ true
      by true parts later = parts.1
      by false parts later =
          and_from (p e) (list_all p (remove_entry test es)) parts.0 (later parts.1)

  -- what a key has
  pub all-lookup : (test : K → Bool) (es : List (K × V)) (v : V) → list_all p es ≡ true
      → lookup test es ≡ Some v → (k : K) × (p (k, v) ≡ true)
  all-lookup test [] v all found = let none : None ≡ Some v = found in absurd (cc)
  all-lookup test (e ∷ es) v all found =
      by (test e.0) found (and_parts (p e) (list_all p es) all) (all-lookup test es v)
    where
      by : (b : Bool) → cond b (Some e.1) (lookup test es) ≡ Some v
          → (p e ≡ true) × (list_all p es ≡ true)
          → (list_all p es ≡ true → lookup test es ≡ Some v → (k : K) × (p (k, v) ≡ true))
          → (k : K) × (p (k, v) ≡ true)
      by true is parts rest =
          let same : e.1 ≡ v = cc in (e.0, ap (λ x. p (e.0, x)) (sym same) ∙ parts.0)
      by false later parts rest = rest parts.1 later

-- an entry that is put in, where key and value are tested by themselves
module _ {K V : Type 0} (p : K → Bool) (q : V → Bool) (eq : K → K → Bool) where
  abbrev pub passes : K × V → Bool
  passes e = p e.0 && q e.1

  pub all-insert_entry : (es : List (K × V)) (k : K) (v : V) → p k ≡ true → q v ≡ true
      → list_all passes es ≡ true → list_all passes (insert_entry eq es k v) ≡ true
  all-insert_entry [] k v key value all =
      all-cons passes (k, v) [] (and_from (p k) (q v) key value) refl
  all-insert_entry (e ∷ es) k v key value all =
      by (eq k e.0) (and_parts (passes e) (list_all passes es) all)
      (all-insert_entry es k v key value)
    where
      by : (b : Bool) → (passes e ≡ true) × (list_all passes es ≡ true)
          → (list_all passes es ≡ true → list_all passes (insert_entry eq es k v) ≡ true)
          → list_all passes (cond b ((e.0, v) ∷ es) (e ∷ insert_entry eq es k v)) ≡ true
      by true parts rest =
          all-cons passes (e.0, v) es
          (and_from (p e.0) (q v) (and_parts (p e.0) (q e.1) parts.0).0 value) parts.1
      by false parts rest = all-cons passes e (insert_entry eq es k v) parts.0 (rest parts.1)

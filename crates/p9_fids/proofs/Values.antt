-- Entries whose values are mapped.
use Rattle.std.proofs.Common.{◌≡◌, ℕ, Bool, true, false, List, [], ◌∷◌, Option, Some, None, refl, ap, sym, ◌∙◌}
use Rattle.std.proofs.Common.{Ordering, Less, Equal, Greater, drop, get_or, length, map, is_some}
use Rattle.std.specs.Prelude.{◌+◌, count_by, if◌then◌else◌, slice_get}
use Rattle.std.proofs.lemmas.List.Sums.{sum_by-cons}
use Rattle.std.specs.List.{All, list_any}
use Rattle.std.proofs.lemmas.List.Elements.{All-cons, All-nil}
use Rattle.std.specs.Map.{keys_of, lookup, remove_entry, set_value, values_of}
use Rattle.std.specs.Option.{option_map}
use Rattle.std.specs.BTreeMap.{insert_entry}
use Rattle.p9_fids.specs.Held.{map_values}

module _ {X Y : Type 0} (f : X → Y) where
  -- the keys are the same
  pub keys-mapped : (entries : List (ℕ × X)) → keys_of (map_values f entries) ≡ keys_of entries
  keys-mapped [] = refl
  keys-mapped (entry ∷ entries) = ap (λ keys. entry.0 ∷ keys) (keys-mapped entries)

  pub values-mapped : (entries : List (ℕ × X)) → values_of (map_values f entries) ≡ map f (values_of entries)
  values-mapped [] = refl
  values-mapped (entry ∷ entries) = ap (λ values. f entry.1 ∷ values) (values-mapped entries)

  pub any-mapped : (p : Y → Bool) (xs : List X) → list_any p (map f xs) ≡ list_any (λ x. p (f x)) xs
  any-mapped p [] = refl
  any-mapped p (x ∷ xs) = rw (any-mapped p xs) refl

  pub count-mapped : (p : Y → Bool) (xs : List X)
      → count_by p (map f xs) ≡ count_by (λ x. p (f x)) xs
  count-mapped p [] = refl
  count-mapped p (x ∷ xs) =
      sum_by-cons (λ y. if p y then 1 else 0) (f x) (map f xs)
      ∙ ap (λ n. (if p (f x) then 1 else 0) + n) (count-mapped p xs)
      ∙ sym (sum_by-cons (λ y. if p (f y) then 1 else 0) x xs)

  pub length-mapped : (entries : List (ℕ × X)) → length (map_values f entries) ≡ length entries
  length-mapped [] = refl
  length-mapped (entry ∷ entries) = rw (length-mapped entries) refl

  pub first-mapped : (entries : List (ℕ × X))
      → option_map (λ row. row.0) (slice_get (map_values f entries) 0)
      ≡ option_map (λ row. row.0) (slice_get entries 0)
  first-mapped [] = refl
  first-mapped (entry ∷ entries) = refl

  pub lookup-mapped : (test : ℕ → Bool) (entries : List (ℕ × X))
      → lookup test (map_values f entries) ≡ option_map f (lookup test entries)
  lookup-mapped test [] = refl
  lookup-mapped test (entry ∷ entries) = go (test entry.0) refl (lookup-mapped test entries)
    where
      go : (b : Bool) → test entry.0 ≡ b
          → lookup test (map_values f entries) ≡ option_map f (lookup test entries)
          → lookup test (map_values f (entry ∷ entries)) ≡ option_map f (lookup test (entry ∷ entries))
      go true e later = rw e refl
      go false e later = rw e later

  pub insert-mapped : (cmp : ℕ → ℕ → Ordering) (entries : List (ℕ × X)) (k : ℕ) (x : X)
      → map_values f (insert_entry cmp entries k x) ≡ insert_entry cmp (map_values f entries) k (f x)
  insert-mapped cmp [] k x = refl
  insert-mapped cmp (entry ∷ entries) k x =
      go (cmp k entry.0) refl (insert-mapped cmp entries k x)
    where
      go : (o : Ordering) → cmp k entry.0 ≡ o
          → map_values f (insert_entry cmp entries k x) ≡ insert_entry cmp (map_values f entries) k (f x)
          → map_values f (insert_entry cmp (entry ∷ entries) k x)
          ≡ insert_entry cmp (map_values f (entry ∷ entries)) k (f x)
      go Less e later = rw e refl
      go Equal e later = rw e refl
      go Greater e later = rw e (ap (λ rest. (entry.0, f entry.1) ∷ rest) later)

  pub set-mapped : (test : ℕ → Bool) (entries : List (ℕ × X)) (x : X)
      → map_values f (set_value test entries x) ≡ set_value test (map_values f entries) (f x)
  set-mapped test [] x = refl
  set-mapped test (entry ∷ entries) x = go (test entry.0) refl (set-mapped test entries x)
    where
      go : (b : Bool) → test entry.0 ≡ b
          → map_values f (set_value test entries x) ≡ set_value test (map_values f entries) (f x)
          → map_values f (set_value test (entry ∷ entries) x)
          ≡ set_value test (map_values f (entry ∷ entries)) (f x)
      go true e later = rw e refl
      go false e later = rw e (ap (λ rest. (entry.0, f entry.1) ∷ rest) later)

  pub remove-mapped : (test : ℕ → Bool) (entries : List (ℕ × X))
      → map_values f (remove_entry test entries) ≡ remove_entry test (map_values f entries)
  remove-mapped test [] = refl
  remove-mapped test (entry ∷ entries) = go (test entry.0) refl (remove-mapped test entries)
    where
      go : (b : Bool) → test entry.0 ≡ b
          → map_values f (remove_entry test entries) ≡ remove_entry test (map_values f entries)
          → map_values f (remove_entry test (entry ∷ entries))
          ≡ remove_entry test (map_values f (entry ∷ entries))
      go true e later = rw e refl
      go false e later = rw e (ap (λ rest. (entry.0, f entry.1) ∷ rest) later)

-- what is made of what may be there is there where that is
pub is_some-mapped : {X Y : Type 0} (f : X → Y) (o : Option X) → is_some (option_map f o) ≡ is_some o
is_some-mapped f None = refl
is_some-mapped f (Some x) = refl

-- one function after another
pub mapped-twice : {X Y Z : Type 0} (g : Y → Z) (f : X → Y) (entries : List (ℕ × X))
    → map_values g (map_values f entries) ≡ map_values (λ x. g (f x)) entries
mapped-twice g f [] = refl
mapped-twice g f (entry ∷ entries) = ap (λ rest. (entry.0, g (f entry.1)) ∷ rest) (mapped-twice g f entries)

module _ {X Y : Type 0} (f g : X → Y) where
  -- two functions make the same of each value
  abbrev pub Alike : List (ℕ × X) → Type 0
  Alike entries = map_values f entries ≡ map_values g entries

  pub alike-insert : (cmp : ℕ → ℕ → Ordering) (entries : List (ℕ × X)) (k : ℕ) (x : X)
      → Alike entries → f x ≡ g x → Alike (insert_entry cmp entries k x)
  alike-insert cmp entries k x alike same =
      insert-mapped f cmp entries k x ∙ ap (λ rest. insert_entry cmp rest k (f x)) alike
      ∙ ap (insert_entry cmp (map_values g entries) k) same ∙ sym (insert-mapped g cmp entries k x)

  pub alike-set : (test : ℕ → Bool) (entries : List (ℕ × X)) (x : X) → Alike entries → f x ≡ g x
      → Alike (set_value test entries x)
  alike-set test entries x alike same =
      set-mapped f test entries x ∙ ap (λ rest. set_value test rest (f x)) alike
      ∙ ap (set_value test (map_values g entries)) same ∙ sym (set-mapped g test entries x)

  pub alike-remove : (test : ℕ → Bool) (entries : List (ℕ × X)) → Alike entries
      → Alike (remove_entry test entries)
  alike-remove test entries alike =
      remove-mapped f test entries ∙ ap (remove_entry test) alike ∙ sym (remove-mapped g test entries)

  pub alike-lookup : (test : ℕ → Bool) (entries : List (ℕ × X)) (x : X) → Alike entries
      → lookup test entries ≡ Some x → f x ≡ g x
  alike-lookup test entries x alike found =
      let both : Some (f x) ≡ Some (g x) =
      ap (option_map f) (sym found) ∙ sym (lookup-mapped f test entries) ∙ ap (lookup test) alike
      ∙ lookup-mapped g test entries ∙ ap (option_map g) found in
      cc

  pub alike-all : (entries : List (ℕ × X)) → Alike entries
      → All (λ x. f x ≡ g x) (values_of entries)
  alike-all [] alike = All-nil (λ x. f x ≡ g x)
  alike-all (entry ∷ entries) alike =
      let first : f entry.1 ≡ g entry.1 = ap (λ es. get_or (values_of es) 0 (f entry.1)) alike in
      let rest : Alike entries = ap (drop 1) alike in
      All-cons (λ x. f x ≡ g x) entry.1 (values_of entries) first (alike-all entries rest)

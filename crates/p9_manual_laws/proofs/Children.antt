-- The children of a directory after a node joins and the directory is marked.
use Rattle.std.proofs.Common.{◌≡◌, ℕ, Bool, true, false, List, [], ◌∷◌, ◌++◌, Some, None, refl}
use Rattle.std.proofs.Common.{ap, ◌∙◌, filter}
use Rattle.std.proofs.lemmas.List.Elements.{filter-append}
use Rattle.std.proofs.lemmas.List.Folds.{find-append}
use Rattle.p9_tree.specs.Node.{Node, has_number, is_child, is_in}
use Rattle.p9_tree.specs.Server.{changed_at, child_of, node_at}
use Rattle.p9_tree.proofs.Changed.{KeepsPlace}

module _ (k : ℕ) (f : Node → Node) (keeps : KeepsPlace f) where
  -- a change of another node than the last
  pub changed_at-joined : (xs : List Node) (n : Node) → has_number k n ≡ false
      → changed_at k f (xs ++ n ∷ []) ≡ changed_at k f xs ++ n ∷ []
  changed_at-joined [] n other = rw other refl
  changed_at-joined (x ∷ xs) n other = go (has_number k x) refl (changed_at-joined xs n other)
    where
      go : (b : Bool) → has_number k x ≡ b
          → changed_at k f (xs ++ n ∷ []) ≡ changed_at k f xs ++ n ∷ []
          → changed_at k f ((x ∷ xs) ++ n ∷ []) ≡ changed_at k f (x ∷ xs) ++ n ∷ []
      go true e later = rw e refl
      go false e later = rw e (ap (λ ys. x ∷ ys) later)

  same_child : (dir : ℕ) (name : List ℕ) (n : Node) → is_child dir name (f n) ≡ is_child dir name n
  same_child dir name n = rw (keeps.in_dir.parent n, keeps.name n) refl

  same_in : (dir : ℕ) (n : Node) → is_in dir (f n) ≡ is_in dir n
  same_in dir n = rw (keeps.in_dir.parent n) refl

  -- a name that is free is free after a change that keeps places
  free_still : (dir : ℕ) (name : List ℕ) (xs : List Node) → child_of dir name xs ≡ None
      → child_of dir name (changed_at k f xs) ≡ None
  free_still dir name [] free = refl
  free_still dir name (x ∷ xs) free =
      by (is_child dir name x) refl (free_still dir name xs)
    where
      go : (b : Bool) → has_number k x ≡ b → is_child dir name x ≡ false
          → child_of dir name xs ≡ None → child_of dir name (changed_at k f xs) ≡ None
          → child_of dir name (changed_at k f (x ∷ xs)) ≡ None
      go true e other rest later =
          let past : is_child dir name (f x) ≡ false = same_child dir name x ∙ other in
          rw (e, past) rest
      go false e other rest later = rw (e, other) later

      by : (b : Bool) → is_child dir name x ≡ b
          → (child_of dir name xs ≡ None → child_of dir name (changed_at k f xs) ≡ None)
          → child_of dir name (changed_at k f (x ∷ xs)) ≡ None
      by true e later = let no : Some x ≡ None = rw e at free in absurd (cc)
      by false e later =
          let rest : child_of dir name xs ≡ None = rw e at free in
          go (has_number k x) refl e rest (later rest)

  -- a node that joins is found by its name, where that was free
  pub joined_child : (dir : ℕ) (name : List ℕ) (xs : List Node) (n : Node)
      → has_number k n ≡ false → child_of dir name xs ≡ None → is_child dir name n ≡ true
      → child_of dir name (changed_at k f (xs ++ n ∷ [])) ≡ Some n
  joined_child dir name xs n other free its =
      ap (λ ys. child_of dir name ys) (changed_at-joined xs n other)
      ∙ find-append (is_child dir name) (changed_at k f xs) (n ∷ [])
      ∙ rw (free_still dir name xs free, its) refl

  -- the children of a directory in which the changed node isn't
  same_children : (dir : ℕ) (xs : List Node)
      → ((x : Node) → node_at k xs ≡ Some x → is_in dir x ≡ false)
      → filter (is_in dir) (changed_at k f xs) ≡ filter (is_in dir) xs
  same_children dir [] outside = refl
  same_children dir (x ∷ xs) outside = go (has_number k x) refl (same_children dir xs)
    where
      by : (b : Bool) → is_in dir x ≡ b → has_number k x ≡ false
          → filter (is_in dir) (changed_at k f xs) ≡ filter (is_in dir) xs
          → filter (is_in dir) (changed_at k f (x ∷ xs)) ≡ filter (is_in dir) (x ∷ xs)
      by true e other later = rw (other, e) (ap (λ ys. x ∷ ys) later)
      by false e other later = rw (other, e) later

      go : (b : Bool) → has_number k x ≡ b
          → (((y : Node) → node_at k xs ≡ Some y → is_in dir y ≡ false)
          → filter (is_in dir) (changed_at k f xs) ≡ filter (is_in dir) xs)
          → filter (is_in dir) (changed_at k f (x ∷ xs)) ≡ filter (is_in dir) (x ∷ xs)
      go true e later =
          let here : is_in dir x ≡ false = outside x (rw e refl) in
          let changed : is_in dir (f x) ≡ false = same_in dir x ∙ here in
          rw (e, changed, here) refl
      go false e later =
          by (is_in dir x) refl e (later (λ y there. outside y (rw e there)))

  -- they are those from before, and the node that joins
  pub joined_children : (dir : ℕ) (xs : List Node) (n : Node) → has_number k n ≡ false
      → ((x : Node) → node_at k xs ≡ Some x → is_in dir x ≡ false) → is_in dir n ≡ true
      → filter (is_in dir) (changed_at k f (xs ++ n ∷ [])) ≡ filter (is_in dir) xs ++ n ∷ []
  joined_children dir xs n other outside its =
      ap (λ ys. filter (is_in dir) ys) (changed_at-joined xs n other)
      ∙ filter-append (is_in dir) (changed_at k f xs) (n ∷ [])
      ∙ ap (λ ys. ys ++ filter (is_in dir) (n ∷ [])) (same_children dir xs outside)
      ∙ ap (λ ys. filter (is_in dir) xs ++ ys) (rw its refl)

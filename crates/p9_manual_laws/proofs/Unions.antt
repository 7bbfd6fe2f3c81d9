-- What a walk and a listing find in a union behind other members.
use Rattle.std.proofs.Common.{◌≡◌, ℕ, suc, ◌+◌, Bool, true, false, List, [], ◌∷◌, ◌++◌, ◌⊎◌, inl}
use Rattle.std.proofs.Common.{inr, Option, Some, refl, sym, ap, ◌∙◌, arith, append_assoc, length, map}
use Rattle.std.specs.Prelude.{◌||◌, ◌==◌}
use Rattle.std.specs.List.{AllByRecursion, list_any}
use Rattle.p9_base.specs.declared.node_ref.NodeRef.{NodeRef}
use Rattle.p9_tree.specs.Forest.{children_of, node_of}
use Rattle.p9_tree.specs.Node.{Node, is_dir}
use Rattle.p9_tree.specs.Server.{Server}
use Rattle.p9_table.specs.declared.row.Member.{Member}
use Rattle.p9_space.specs.Rights.{Who, may, to_read}
use Rattle.p9_space.specs.Walk.{child_among, child_ref, is_searched}
use Rattle.p9_step.specs.Listing.{entries_from, entries_of, entry_at, is_listed}
use Rattle.p9_manual_laws.specs.Creates.{IsPassedBy, Lists}

or_true : (a : Bool) → (a || true) ≡ true
or_true true = refl
or_true false = refl

-- an item that passes, behind others
pub any_behind : {X : Type 0} (test : X → Bool) (xs ys : List X) (x : X) → test x ≡ true
    → list_any test (xs ++ x ∷ ys) ≡ true
any_behind test [] ys x passes = rw passes refl
any_behind test (y ∷ xs) ys x passes =
    ap (λ b. test y || b) (any_behind test xs ys x passes) ∙ or_true (test y)

module _ (forest : List Server) (who : Option Who) (name : List ℕ) where
  -- the first member that a walk doesn't pass by has the child
  pub child_behind : (earlier later : List Member) (m : Member) (place : NodeRef)
      → AllByRecursion (IsPassedBy forest who name) earlier → is_searched forest who m ≡ true
      → child_ref forest m.node name ≡ Some place
      → child_among forest who name (earlier ++ m ∷ later) ≡ Some place
  child_behind [] later m place passed searched child = rw (searched, child) refl
  child_behind (e ∷ es) later m place passed searched child =
      go (is_searched forest who e) refl (child_behind es later m place passed.1 searched child)
    where
      go : (b : Bool) → is_searched forest who e ≡ b
          → child_among forest who name (es ++ m ∷ later) ≡ Some place
          → child_among forest who name (e ∷ es ++ m ∷ later) ≡ Some place
      go true is rest = rw (is, passed.0 is) rest
      go false is rest = rw is rest

module _ (forest : List Server) (who : Who) where
  -- the entries of members, and of others behind them
  entries_append : (position : ℕ) (xs ys : List Member)
      → entries_from forest who position (xs ++ ys)
      ≡ entries_from forest who position xs ++ entries_from forest who (position + length xs) ys
  entries_append position [] ys =
      let same : position ≡ position + length {A = Member} [] = omega arith in
      ap (λ p. entries_from forest who p ys) same
  entries_append position (x ∷ xs) ys =
      let same : suc position + length xs ≡ position + length (x ∷ xs) = omega arith in
      ap (λ es. entries_of forest who position x ++ es)
      (entries_append (suc position) xs ys
      ∙ ap (λ p. entries_from forest who (suc position) xs ++ entries_from forest who p ys) same)
      ∙ sym (append_assoc (entries_of forest who position x) (entries_from forest who (suc position) xs)
      (entries_from forest who (position + length (x ∷ xs)) ys))

  -- a directory is listed where it is first, and for whoever may read it
  is_listed_dir : (earlier : List Member) (m : Member) (d : Node) → node_of m.node forest ≡ Some d
      → is_dir d ≡ true → (earlier ≡ []) ⊎ (may who d to_read ≡ true)
      → is_listed forest who (length earlier) m ≡ true
  is_listed_dir [] m d there dir reads = rw (there, dir) refl
  is_listed_dir (e ∷ es) m d there dir (inl none) = absurd (cc)
  is_listed_dir (e ∷ es) m d there dir (inr may_read) =
      rw (there, dir, may_read) (or_true (length (e ∷ es) == 0))

  -- the entries of a union have those of a directory that is listed
  pub lists_behind : (earlier later : List Member) (m : Member) (d : Node) (files : List Node)
      → node_of m.node forest ≡ Some d → is_dir d ≡ true
      → (earlier ≡ []) ⊎ (may who d to_read ≡ true) → children_of m.node forest ≡ files
      → Lists (entries_from forest who 0 (earlier ++ m ∷ later)) (length earlier) m.node files
  lists_behind earlier later m d files there dir reads children = record {
    earlier = entries_from forest who 0 earlier;
    later = entries_from forest who (suc (length earlier)) later;
    all =
        (let same : 0 + length earlier ≡ length earlier = omega arith in
        let its : entries_of forest who (length earlier) m
        ≡ map (entry_at (length earlier) m.node) files =
        rw (is_listed_dir earlier m d there dir reads, children) refl in
        entries_append 0 earlier (m ∷ later)
        ∙ ap (λ p. entries_from forest who 0 earlier ++ entries_from forest who p (m ∷ later)) same
        ∙ ap (λ es. entries_from forest who 0 earlier
        ++ (es ++ entries_from forest who (suc (length earlier)) later)) its
        ∙ sym (append_assoc (entries_from forest who 0 earlier)
        (map (entry_at (length earlier) m.node) files)
        (entries_from forest who (suc (length earlier)) later)));
  }

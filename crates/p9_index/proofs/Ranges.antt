-- What the range from a floor has of the children of a directory.
use Rattle.std.proofs.Common.{◌≡◌, ℕ, ◌≤◌, true, false, List, [], ◌∷◌, Option, refl, subst, arith}
use Rattle.std.specs.BTreeMap.Range.{IsLeBy}
use Rattle.std.specs.BTreeSet.{IsKeyInRange, IsKeyRangeOf}
use Rattle.std.specs.declared.ops.Bound.{Bound}
use Rattle.std.specs.declared.ops.Bound.TheVariants.{Unbounded}
use Rattle.std.specs.List.{slice_get}
use Rattle.std.specs.Option.{IfSome}
use Rattle.p9_index.specs.declared.entries.Child.{Child}
use Rattle.p9_index.specs.declared.entries.Entries.{Entries}
use Rattle.p9_index.specs.Entries.{IsLeast, IsNoneAbove, child_at, child_cmp, children_from}
use Rattle.p9_index.specs.Entries.{exceeds, is_listed}
use Rattle.p9_index.proofs.Orders.{in_range, le_dir, le_number, range_above, range_dir}

antisymmetric : (a b : ℕ) → a ≤ b → b ≤ a → a ≡ b
antisymmetric a b le ge = omega arith

module _ {Z : Type 0} (s : Entries Z) (dir : ℕ) (floor : Option ℕ) (start : Bound Child)
    (from : start ≡ children_from dir floor) (r : List Child)
    (range : IsKeyRangeOf child_cmp start Unbounded s.children r) where
  here : IsKeyRangeOf child_cmp (children_from dir floor) Unbounded s.children r
  here = subst (λ b. IsKeyRangeOf child_cmp b Unbounded s.children r) from range

  -- an empty range has no child
  pub none_in_range : r ≡ [] → IsNoneAbove dir floor s
  none_in_range empty k above = here.5 empty (child_at dir k) (in_range dir floor k above)

  module _ (c : Child) (t : List Child) (first : r ≡ c ∷ t) where
    within : IsKeyInRange child_cmp (children_from dir floor) Unbounded s.children c
    within =
        subst (λ (xs : List Child). IfSome (slice_get xs 0)
        (IsKeyInRange child_cmp (children_from dir floor) Unbounded s.children)) first here.1

    before : (k : ℕ) → exceeds floor k ≡ true → is_listed s (child_at dir k) ≡ true
        → IsLeBy child_cmp c (child_at dir k)
    before k above is =
        subst (λ (xs : List Child). IfSome (slice_get xs 0) (λ q. IsLeBy child_cmp q (child_at dir k)))
        first (here.2 (child_at dir k) (in_range dir floor k above) is)

    -- the first of the range, where it is in the directory, is the least child above the floor
    pub first_in_range : c.dir ≡ dir → IsLeast dir floor c.number s
    first_in_range same = record {
      listed = subst (λ d. is_listed s (child_at d c.number) ≡ true) same within.1;
      above = range_above dir floor c within.0 same;
      least = λ k is above. le_number c (child_at dir k) (before k above is) same;
    }

    -- and where it isn't, there is none
    pub first_elsewhere : (c.dir ≡ dir → ⊥) → IsNoneAbove dir floor s
    first_elsewhere other k above =
        elim (is_listed s (child_at dir k)) as (λ b. is_listed s (child_at dir k) ≡ b → b ≡ false) [
          | true ↦ λ is. absurd (other (antisymmetric c.dir dir
              (le_dir c (child_at dir k) (before k above is)) (range_dir dir floor c within.0)))
          | false ↦ λ is. refl
        ] refl

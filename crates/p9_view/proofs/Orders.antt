-- The order of a tour's entries, by the entries that they are below.
use Rattle.std.proofs.Common.{◌≡◌, ℕ, zero, suc, ◌+◌, ◌<◌, ◌≤◌, List, [], ◌∷◌, ◌++◌, Option, Some, None}
use Rattle.std.proofs.Common.{inl, inr, length, ap, ◌∙◌, arith}
use Rattle.std.specs.Prelude.{slice_get}
use Rattle.p9_policy.proofs.Basics.{not_some, some_same}
use Rattle.p9_judge.proofs.Lists.{at-within, kept_at, new_at, split_at}
use Rattle.p9_view.specs.Tour.{AreInOrder}

-- one entry, which is the root, is in order
pub order-root : AreInOrder (None ∷ [])
order-root zero j p q at there low high = absurd (omega arith)
order-root (suc i) j p q at there low high = not_some (Some p) at

-- Entries below the last of some are put after it, before others that are below earlier ones.
module _ (before added after : List (Option ℕ)) (n : ℕ) (last : length before ≡ n + 1)
    (below : (k : ℕ) (x : Option ℕ) → slice_get added k ≡ Some x → x ≡ Some n)
    (earlier : (k p : ℕ) → slice_get after k ≡ Some (Some p) → p < n)
    (order : AreInOrder (before ++ after)) where
  -- where an index is
  data Where (i : ℕ) (x : Option ℕ) : Type 0 where
    InBefore : i < length before → slice_get before i ≡ Some x → Where i x
    InAdded : (k : ℕ) → i ≡ length before + k → k < length added → x ≡ Some n → Where i x
    InAfter : (k : ℕ) → i ≡ length before + (length added + k) → slice_get after k ≡ Some x
        → Where i x

  where-at : (i : ℕ) (x : Option ℕ) → slice_get (before ++ (added ++ after)) i ≡ Some x → Where i x
  where-at i x at = elim (split_at before (added ++ after) i x at) [
    | inl old ↦ InBefore (at-within before i x old) old
    | inr new ↦ elim (split_at added after new.0 x new.2) [
      | inl fresh ↦
          InAdded new.0 new.1 (at-within added new.0 x fresh) (below new.0 x fresh)
      | inr late ↦
          InAfter late.0 (new.1 ∙ ap (λ k. length before + k) late.1) late.2
    ]
  ]

  pub order-more : AreInOrder (before ++ (added ++ after))
  order-more i j p q at there low high = go (where-at i (Some p) at) (where-at j (Some q) there)
    where
      go : Where i (Some p) → Where j (Some q) → p ≤ q
      go (InBefore within a) (InBefore close b) =
          order i j p q (kept_at before after i (Some p) a) (kept_at before after j (Some q) b) low
          high
      go (InBefore within a) (InAdded k e lt b) = absurd (omega arith)
      go (InBefore within a) (InAfter k e b) = absurd (omega arith)
      go (InAdded k e lt a) (InBefore close b) =
          let same = some_same p n a in absurd (omega arith)
      go (InAdded k e lt a) (InAdded l f less b) =
          let same = some_same p n a in let other = some_same q n b in omega arith
      go (InAdded k e lt a) (InAfter l f b) = absurd (omega arith)
      go (InAfter k e a) (InBefore close b) =
          order (length before + k) j p q (new_at before after k (Some p) a)
          (kept_at before after j (Some q) b) low (omega arith)
      go (InAfter k e a) (InAdded l f less b) =
          let small = earlier k p a in let other = some_same q n b in omega arith
      go (InAfter k e a) (InAfter l f b) =
          let small = earlier k p a in
          order (length before + k) (length before + l) p q (new_at before after k (Some p) a)
          (new_at before after l (Some q) b) (omega arith) (omega arith)

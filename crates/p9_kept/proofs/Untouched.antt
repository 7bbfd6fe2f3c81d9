-- Calls that change nothing of a file, one after another.
use Rattle.std.proofs.Common.{⊎_elim, inl, inr, ℕ, ◌≤◌, List, ◌∙◌, arith}
use Rattle.p9_log.specs.declared.crash.Crash.{Crash}
use Rattle.p9_log.specs.Log.{Nothing}
use Rattle.p9_log.specs.Device.{LeavesOnly}
use Rattle.p9_kept.specs.Making.{IsUntouched}

module _ {D : Type 0} (moment : D → ℕ) (left_since : D → Crash → ℕ → List ℕ → Type 0) (how : Crash)
    (P : List ℕ → Type 0) where
  -- one call after another
  pub leaves-then : (old mid new : D) → LeavesOnly moment left_since how P old mid
      → LeavesOnly moment left_since how P mid new → LeavesOnly moment left_since how P old new
  leaves-then old mid new first second =
      let first_later : moment old ≤ moment mid = first.later in
      record {
        later = omega (arith, first.later, second.later);
        since = λ t c le left.
            ⊎_elim (first.since t c le) (λ p. inr p) (second.since t c (omega arith) left);
      }

-- what a crash leaves may be said in a weaker way
pub leaves-weaker : {D : Type 0} (moment : D → ℕ) (left_since : D → Crash → ℕ → List ℕ → Type 0)
    (how : Crash) (P Q : List ℕ → Type 0) (old new : D) → ((c : List ℕ) → P c → Q c)
    → LeavesOnly moment left_since how P old new → LeavesOnly moment left_since how Q old new
leaves-weaker moment left_since how P Q old new so leaves = record {
  later = leaves.later;
  since = λ t c le left. ⊎_elim (λ before. inl before) (λ p. inr (so c p)) (leaves.since t c le left);
}

module _ {D : Type 0} (seen : D → List ℕ) (moment : D → ℕ) (may_leave : D → Crash → List ℕ → Type 0)
    (left_since : D → Crash → ℕ → List ℕ → Type 0) where
  pub untouched-then : (old mid new : D) → IsUntouched seen moment may_leave left_since old mid
      → IsUntouched seen moment may_leave left_since mid new
      → IsUntouched seen moment may_leave left_since old new
  untouched-then old mid new first second = record {
    same = second.same ∙ first.same;
    no_more = λ how c left. first.no_more how c (second.no_more how c left);
    any_moment = λ how.
        leaves-then moment left_since how Nothing old mid new (first.any_moment how)
        (second.any_moment how);
  }

-- How a run of device calls goes on.
use Rattle.std.proofs.Common.{inl, inr, ⊎_elim, ℕ, List, arith}
use Rattle.p9_log.specs.declared.crash.Crash.{Crash}
use Rattle.p9_log.specs.Device.{After, LeavesOnly, Passes}

module _ {D : Type 0} (moment : D → ℕ) (may_leave : D → Crash → List ℕ → Type 0)
    (left_since : D → Crash → ℕ → List ℕ → Type 0) (how : Crash) (P : List ℕ → Type 0) where
  -- before the first call
  pub started : (old : D) → LeavesOnly moment left_since how P old old
  started old = record { later = omega arith; since = λ t c le left. inl left }

  -- one call more, within which and after which a crash leaves what has P
  pub goes_on : (old mid new : D) (step : List ℕ → List ℕ → Type 0)
      → LeavesOnly moment left_since how P old mid
      → Passes moment may_leave left_since how step mid new
      → ((c : List ℕ) → After step (may_leave mid how) c → P c)
      → LeavesOnly moment left_since how P old new
  goes_on old mid new step so_far passes here = record {
    later = omega (arith, so_far.later, passes.later);
    since = λ t c le left.
        ⊎_elim (so_far.since t c le) (λ now. inr (here c now))
        (passes.within t c (omega (arith, le, so_far.later)) left);
  }

  -- the first call
  pub begins : (old new : D) (step : List ℕ → List ℕ → Type 0)
      → Passes moment may_leave left_since how step old new
      → ((c : List ℕ) → After step (may_leave old how) c → P c)
      → LeavesOnly moment left_since how P old new
  begins old new step = goes_on old old new step (started old)

  -- one run after another
  pub joined : (old mid new : D) → LeavesOnly moment left_since how P old mid
      → LeavesOnly moment left_since how P mid new → LeavesOnly moment left_since how P old new
  joined old mid new first second = record {
    later = omega (arith, first.later, second.later);
    since = λ t c le left.
        ⊎_elim (first.since t c le) (λ now. inr now)
        (second.since t c (omega (arith, le, first.later)) left);
  }

-- what a crash leaves may be said in a weaker way
pub weaker : {D : Type 0} (moment : D → ℕ) (left_since : D → Crash → ℕ → List ℕ → Type 0) (how : Crash)
    (P Q : List ℕ → Type 0) (old new : D) → LeavesOnly moment left_since how P old new
    → ((c : List ℕ) → P c → Q c) → LeavesOnly moment left_since how Q old new
weaker moment left_since how P Q old new leaves so = record {
  later = leaves.later;
  since = λ t c le left. ⊎_elim (λ before. inl before) (λ p. inr (so c p)) (leaves.since t c le left);
}

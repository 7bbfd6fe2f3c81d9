-- A device over another one.
use Rattle.std.proofs.Common.{◌≡◌, inl, inr, ⊎_elim, ℕ, ◌+◌, ◌≤◌, List, length, take, drop, sym, ap, subst, ◌-◌, ◌∙◌, arith}
use Rattle.std.proofs.lemmas.Bool.{cases_lt}
use Rattle.std.proofs.lemmas.List.{take_all, take-take, length-take-le}
use Rattle.std.proofs.Common.{drop-drop}
use Rattle.p9_log.specs.declared.crash.Crash.{Crash}
use Rattle.p9_log.specs.declared.crash.Crash.TheVariants.{Killed, Stopped}
use Rattle.p9_log.specs.Device.{Holds, IsWritten, Passes}

module _ {F D : Type 0} (under : F → D) (moment : D → ℕ) (may_leave : D → Crash → List ℕ → Type 0)
    (left_since : D → Crash → ℕ → List ℕ → Type 0) (how : Crash) where
  -- what the device below does
  pub lifted : (step : List ℕ → List ℕ → Type 0) (old new : F)
      → Passes moment may_leave left_since how step (under old) (under new)
      → Passes (λ f. moment (under f)) (λ f. may_leave (under f)) (λ f. left_since (under f)) how step old new
  lifted step old new p = record { later = p.later; now = p.now; within = p.within; keeps = p.keeps }

  -- in a weaker way
  pub lifted-so : (step so : List ℕ → List ℕ → Type 0) (old new : F)
      → Passes moment may_leave left_since how step (under old) (under new)
      → ((d c : List ℕ) → step d c → so d c)
      → Passes (λ f. moment (under f)) (λ f. may_leave (under f)) (λ f. left_since (under f)) how so old new
  lifted-so step so old new p then = record {
    later = p.later;
    now = λ c left. let after = p.now c left in (after.0, after.1, then after.0 c after.2);
    within = λ t c le left. ⊎_elim (λ before. inl before) (λ after. inr (after.0, after.1, then after.0 c after.2)) (p.within t c le left);
    keeps = p.keeps;
  }

-- a write of a front
pub short-write : (how : Crash) (at n : ℕ) (bytes d c : List ℕ) → n ≤ length bytes → IsWritten how at (take n bytes) d c → IsWritten how at bytes d c
short-write Killed at n bytes d c le (k, holds) =
    ⊎_elim (λ lt. (k, subst (λ b. Holds d at b c) (take-take k n bytes (omega arith)) holds))
    (λ ge. (n, subst (λ b. Holds d at b c) (take_all k (take n bytes) (omega (arith, length-take-le n bytes le))) holds)) (cases_lt k n)
short-write Stopped at n bytes d c le torn =
    let long = length-take-le n bytes le in
    let behind : (l : List ℕ) → drop (at + length bytes) l ≡ drop (length bytes - n) (drop (at + length (take n bytes)) l) = λ l.
    ap (λ (k : ℕ). drop k l) (omega arith) ∙ sym (drop-drop (length bytes - n) (at + length (take n bytes)) l) in
    record {
      before = torn.before;
      after = behind c ∙ ap (drop (length bytes - n)) torn.after ∙ sym (behind d);
      no_shorter = torn.no_shorter;
      no_longer = omega (arith, torn.no_longer);
    }

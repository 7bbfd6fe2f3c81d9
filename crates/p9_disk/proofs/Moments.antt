-- One call more takes a step.
use Rattle.std.proofs.Common.{Result, Ok, Err, OnOk, OnErr, ◌≡◌, inl, inr, ⊎_elim, ℕ, List, ◌∷◌, length, sym, subst, arith}
use Rattle.p9_log.specs.declared.crash.Crash.{Crash}
use Rattle.p9_log.specs.Device.{After, Passes}
use Rattle.p9_disk.specs.Events.{Event, drafted}
use Rattle.p9_disk.specs.Crashes.{Goes, Within, may_leave, left_since, step_of}
use Rattle.p9_disk.proofs.Effects.{after}

-- no call
pub stays : (how : Crash) (step : List ℕ → List ℕ → Type 0) (events : List Event) → ((file : List ℕ) → step file file) → Goes how step events events
stays how step events same = record {
  later = omega arith;
  now = λ c left. (c, left, same c);
  within = λ t c le left. inl left;
  keeps = λ t c le left. left;
}

-- and one more
pub goes_on : (how : Crash) (step : List ℕ → List ℕ → Type 0) (old mid : List Event) (e : Event) → Goes how step old mid
    → ((c : List ℕ) → Within how e mid c → After step (may_leave how old) c) → Goes how step old (e ∷ mid)
goes_on how step old mid e goes so = record {
  later = omega (arith, goes.later);
  now = λ c left. so c (after how e mid c left);
  within = λ t c le left.
      ⊎_elim (λ now. inr (so c (after how e mid c now)))
      (λ was. ⊎_elim (λ in_it. inr (so c in_it)) (λ left. goes.within t c le left) was.1) left;
  keeps = λ t c le left. inr (omega (arith, goes.later, le), inr (goes.keeps t c le left));
}

-- one call
pub one : (how : Crash) (e : Event) (old new : List Event) → new ≡ e ∷ old → Goes how (step_of how e (drafted old)) old new
one how e old new is =
    subst (Goes how (step_of how e (drafted old)) old) (sym is)
    (record {
      later = omega arith;
      now = λ c left. after how e old c left;
      within = λ t c le left.
          ⊎_elim (λ now. inr (after how e old c now)) (λ was. ⊎_elim (λ in_it. inr in_it) (λ left. inl left) was.1) left;
      keeps = λ t c le left. inr (le, inr left);
    })

-- the calls on a device are those of its record
pub lifted : {D : Type 0} (events : D → List Event) (how : Crash) (step : List ℕ → List ℕ → Type 0) (old new : D) → Goes how step (events old) (events new)
    → Passes (λ d. length (events d)) (λ d kind. may_leave kind (events d)) (λ d kind t. left_since kind t (events d)) how step old new
lifted events how step old new goes = record { later = goes.later; now = goes.now; within = goes.within; keeps = goes.keeps }

-- a call that ended in one of two ways
pub ended : {T E : Type 0} (r : Result T E) (how : Crash) (done failed : Event) (old new : List Event) → step_of how failed (drafted old) ≡ step_of how done (drafted old)
    → OnOk r (new ≡ done ∷ old) → OnErr r (new ≡ failed ∷ old) → Goes how (step_of how done (drafted old)) old new
ended (Ok x) how done failed old new same ok err = one how done old new ok
ended (Err e) how done failed old new same ok err = subst (λ step. Goes how step old new) same (one how failed old new err)

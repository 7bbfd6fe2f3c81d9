-- What a crash leaves while a file is cut behind its blocks.
use Rattle.std.proofs.Common.{◌≡◌, inl, inr, ⊎_elim, ℕ, ◌+◌, ◌≤◌, min, List, length, take, ap, sym, subst, ◌∙◌, arith}
use Rattle.std.proofs.lemmas.Bool.{cases_lt}
use Rattle.std.proofs.lemmas.List.{take_all, take-take, length-take-le}
use Rattle.p9_log.specs.declared.crash.Crash.{Crash}
use Rattle.p9_log.specs.declared.crash.Crash.TheVariants.{Killed, Stopped}
use Rattle.p9_log.specs.Device.{After, CutShort, IsCut, IsSame, LeavesOnly, Only, Passes}
use Rattle.p9_log.specs.Reading.{IsCutBehind, IsCutTo}
use Rattle.p9_log.proofs.Kept.{only}
use Rattle.p9_log.proofs.Moments.{begins, goes_on}
use Rattle.p9_log.proofs.Writes.{after-same}

cut-crash : (how : Crash) (n : ℕ) (file : List ℕ) (outcomes : List ℕ → Type 0) → n ≤ length file → Only file outcomes
    → (c : List ℕ) → After (IsCut how n) outcomes c → IsCutTo n file c
cut-crash Killed n file outcomes le all c after =
    ⊎_elim
    (λ e. let same : c ≡ file = e ∙ all after.0 after.1 in (ap (take n) same, omega (arith, ap length same), omega (arith, ap length same)))
    (λ e.
    let same : c ≡ take n file = e ∙ ap (take n) (all after.0 after.1) in
    let long : length c ≡ n = ap length same ∙ length-take-le n file le in
    (ap (take n) same ∙ take-take n n file (omega arith), omega arith, omega arith)) after.2
cut-crash Stopped n file outcomes le all c after =
    let cut = subst (λ f. CutShort n f c) (all after.0 after.1) after.2 in
    let least : n ≡ min n (length file) = omega arith in
    (ap (λ (k : ℕ). take k c) least ∙ cut.before, omega (arith, cut.no_shorter), omega (arith, cut.no_longer))

module _ {D : Type 0} (seen : D → List ℕ) (moment : D → ℕ) (may_leave : D → Crash → List ℕ → Type 0)
    (left_since : D → Crash → ℕ → List ℕ → Type 0)
    (alive : (file : D) → Only (seen file) (may_leave file Killed))
    (counts_now : (file : D) (how : Crash) (t : ℕ) (c : List ℕ) → t ≤ moment file → may_leave file how c → left_since file how t c) where
  -- a call that changes nothing leaves nothing new
  pub nothing-new : (how : Crash) (P : List ℕ → Type 0) (start one : D) → Passes moment may_leave left_since how IsSame start one
      → LeavesOnly moment left_since how P start one
  nothing-new how P start one passes = record {
    later = passes.later;
    since = λ t c le left.
        ⊎_elim (λ before. inl before) (λ after. inl (counts_now start how t c le (subst (may_leave start how) (sym after.2) after.1)))
        (passes.within t c le left);
  }

  module _ (n : ℕ) (start one : D) (le : n ≤ length (seen start)) (durable : Only (seen start) (may_leave start Stopped))
      (first : (how : Crash) → Passes moment may_leave left_since how (IsCut how n) start one) where
    here : (how : Crash) (c : List ℕ) → After (IsCut how n) (may_leave start how) c → IsCutTo n (seen start) c
    here how = cut-crash how n (seen start) (may_leave start how) le (only seen moment may_leave left_since alive start durable how)

    pub after-cut : (how : Crash) → LeavesOnly moment left_since how (IsCutTo n (seen start)) start one
    after-cut how =
        begins moment may_leave left_since how (IsCutTo n (seen start)) start one (IsCut how n) (first how) (here how)

    pub after-all : (two : D) → ((how : Crash) → Passes moment may_leave left_since how IsSame one two)
        → (how : Crash) → LeavesOnly moment left_since how (IsCutTo n (seen start)) start two
    after-all two second how =
        goes_on moment may_leave left_since how (IsCutTo n (seen start)) start one two IsSame (after-cut how) (second how)
        (after-same (IsCutTo n (seen start)) (may_leave one how) (λ c now. here how c ((first how).now c now)))

-- the first cut leaves the head of a block, and the second what is before it
pub first-cut : (end left to : ℕ) (file c : List ℕ) → end + left ≡ length file → to ≡ end + min left 10 → IsCutTo to file c → IsCutBehind end file c
first-cut end left to file c ends to_is cut = (
  (sym (take-take end to c (omega arith)) ∙ ap (take end) cut.0 ∙ take-take end to file (omega arith), omega (arith, cut.1), cut.2),
  inl (⊎_elim
      (λ less.
      let all : to ≡ length file = omega arith in
      let same : c ≡ file =
      sym (take_all to c (omega (arith, cut.2))) ∙ cut.0 ∙ take_all to file (omega arith) in
      ap (take (end + 10)) same)
      (λ more.
      let ten : to ≡ end + 10 = omega arith in
      ap (λ (k : ℕ). take k c) (sym ten) ∙ cut.0 ∙ ap (λ (k : ℕ). take k file) ten)
      (cases_lt left 10)),
)

pub second-cut : (end left to : ℕ) (file now c : List ℕ) → end + left ≡ length file → to ≡ end + min left 10 → now ≡ take to file → IsCutTo end now c → IsCutBehind end file c
second-cut end left to file now c ends to_is is cut =
    let long : length now ≡ to = ap length is ∙ length-take-le to file (omega arith) in (
      (cut.0 ∙ ap (take end) is ∙ take-take end to file (omega arith), cut.1, omega (arith, cut.2)),
      inr (omega (arith, cut.2)),
    )

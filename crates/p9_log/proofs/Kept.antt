-- What a crash leaves while a file is brought to the disk.
use Rattle.std.proofs.Common.{Result, Ok, Err, OnOk, ◌≡◌, ℕ, ◌+◌, List, [], ◌∷◌, sym, subst, ◌∙◌}
use Rattle.p9_log.specs.declared.crash.Crash.{Crash}
use Rattle.p9_log.specs.declared.crash.Crash.TheVariants.{Killed, Stopped}
use Rattle.p9_log.specs.Blocks.{content_in}
use Rattle.p9_log.specs.Device.{Holds, IsSame, IsWritten, LeavesOnly, Only, Passes}
use Rattle.p9_log.specs.Log.{IsKept}
use Rattle.p9_log.specs.Rest.{Begin, IsAtRest, IsSplit}
use Rattle.p9_log.proofs.Moments.{begins, goes_on}
use Rattle.p9_log.proofs.Splits.{marks, Known, marked, marked-is, mark-crash, gate-crash, opened-rest}
use Rattle.p9_log.proofs.Writes.{after-same}

module _ {D : Type 0} (seen : D → List ℕ) (moment : D → ℕ) (may_leave : D → Crash → List ℕ → Type 0)
    (left_since : D → Crash → ℕ → List ℕ → Type 0)
    (alive : (file : D) → Only (seen file) (may_leave file Killed)) where
  -- what is known of a file whose front is on the disk
  pub known : (file : D) (n : ℕ) → Begin n (seen file) (may_leave file Stopped) → (how : Crash)
      → Known n (seen file) how (may_leave file how)
  known file n begin Killed = alive file
  known file n begin Stopped = begin

  -- and of one that is on the disk
  pub only : (file : D) → Only (seen file) (may_leave file Stopped) → (how : Crash)
      → Only (seen file) (may_leave file how)
  only file durable Killed = alive file
  only file durable Stopped = durable

  module _ (kept end : ℕ) (start : D) (split : IsSplit (seen start) kept end)
      (begin : Begin (kept + 1) (seen start) (may_leave start Stopped)) where
    abbrev P : Crash → List ℕ → Type 0
    P how = IsKept how (seen start)

    here : (how : Crash) (one : D) → Passes moment may_leave left_since how (IsWritten how end marks) start one
        → (c : List ℕ) → may_leave one how c → P how c
    here how one first c now = mark-crash (seen start) kept end split how (may_leave start how) (known start (kept + 1) begin how) c (first.now c now)

    pub after-mark : (one : D)
        → ((how : Crash) → Passes moment may_leave left_since how (IsWritten how end marks) start one)
        → (how : Crash) → LeavesOnly moment left_since how (P how) start one
    after-mark one first how =
        begins moment may_leave left_since how (P how) start one (IsWritten how end marks) (first how)
        (mark-crash (seen start) kept end split how (may_leave start how) (known start (kept + 1) begin how))

    pub after-sync : (one two : D)
        → ((how : Crash) → Passes moment may_leave left_since how (IsWritten how end marks) start one)
        → ((how : Crash) → Passes moment may_leave left_since how IsSame one two)
        → (how : Crash) → LeavesOnly moment left_since how (P how) start two
    after-sync one two first second how =
        goes_on moment may_leave left_since how (P how) start one two IsSame (after-mark one first how) (second how)
        (after-same (P how) (may_leave one how) (here how one (first how)))

    module _ (one two : D)
        (first : (how : Crash) → Passes moment may_leave left_since how (IsWritten how end marks) start one)
        (written : Holds (seen start) end marks (seen one))
        (second : (how : Crash) → Passes moment may_leave left_since how IsSame one two)
        (durable : Only (seen one) (may_leave two Stopped)) (same : seen two ≡ seen one) where
      pub is_marked : seen two ≡ marked (seen start) kept end split
      is_marked = same ∙ marked-is (seen start) kept end split (seen one) written

      all : (how : Crash) → Only (marked (seen start) kept end split) (may_leave two how)
      all how =
          subst (λ f. Only f (may_leave two how)) is_marked
          (only two (subst (λ f. Only f (may_leave two Stopped)) (sym same) durable) how)

      pub after-gate : (three : D)
          → ((how : Crash) → Passes moment may_leave left_since how (IsWritten how kept (1 ∷ [])) two three)
          → (how : Crash) → LeavesOnly moment left_since how (P how) start three
      after-gate three third how =
          goes_on moment may_leave left_since how (P how) start two three (IsWritten how kept (1 ∷ []))
          (after-sync one two first second how) (third how)
          (gate-crash (seen start) kept end split how (may_leave two how) (all how))

      pub after-all : (three four : D)
          → ((how : Crash) → Passes moment may_leave left_since how (IsWritten how kept (1 ∷ [])) two three)
          → ((how : Crash) → Passes moment may_leave left_since how IsSame three four)
          → (how : Crash) → LeavesOnly moment left_since how (P how) start four
      after-all three four third fourth how =
          goes_on moment may_leave left_since how (P how) start three four IsSame (after-gate three third how) (fourth how)
          (after-same (P how) (may_leave three how)
          (λ c now. gate-crash (seen start) kept end split how (may_leave two how) (all how) c ((third how).now c now)))

      -- the file in the end
      pub at_last : (three four : D) → Holds (seen two) kept (1 ∷ []) (seen three) → seen four ≡ seen three
          → IsAtRest (seen four) end (end + 10) × (content_in Killed (seen four) ≡ content_in Killed (seen start))
          × (content_in Stopped (seen four) ≡ content_in Killed (seen start))
      at_last three four holds as_before =
          opened-rest (seen start) kept end split (seen four)
          (subst (λ f. Holds f kept (1 ∷ []) (seen four)) is_marked (subst (Holds (seen two) kept (1 ∷ [])) (sym as_before) holds))

-- what holds anyway, holds of an `Ok`
pub always : {T E : Type 0} (r : Result T E) (P : Type 0) → P → OnOk r P
always (Ok x) P p = p
always (Err e) P p = tt

-- what follows
pub follows : {T E : Type 0} (r : Result T E) (P Q : Type 0) → OnOk r P → (P → Q) → OnOk r Q
follows (Ok x) P Q p f = f p
follows (Err e) P Q p f = tt

-- A draft is written beside a file, and put in its place.
use Rattle.std.proofs.Common.{Result, Ok, Err, OnErr, ◌≡◌, inl, inr, ⊎_elim, ℕ, ◌+◌, ◌≤◌, ◌<◌, ◌^◌, List, [], ◌++◌, length, take}
use Rattle.std.proofs.Common.{refl, sym, ap, subst, ◌∙◌, arith, length-append}
use Rattle.std.proofs.lemmas.List.{append-nil}
use Rattle.p9_log.specs.declared.crash.Crash.{Crash}
use Rattle.p9_log.specs.declared.crash.Crash.TheVariants.{Killed, Stopped}
use Rattle.p9_log.specs.Blocks.{number, content_in}
use Rattle.p9_log.specs.Device.{IsPut, IsSame, LeavesOnly, Only, Passes}
use Rattle.p9_log.specs.Draft.{IsDraft}
use Rattle.p9_log.specs.Log.{AlwaysHas, NoMore, Nothing}
use Rattle.p9_log.specs.Rest.{block, Begin, IsAtRest, Runs}
use Rattle.p9_log.proofs.Cuts.{nothing-new}
use Rattle.p9_log.proofs.Readings.{content-stop, length-number}
use Rattle.p9_log.proofs.Rest.{runs-join, runs-open, runs-stop}
use Rattle.p9_log.proofs.Splits.{marks, fresh-killed, fresh-stopped, fresh-rest}

-- nothing is in no bytes
pub none : content_in Stopped [] ≡ []
none = content-stop Stopped [] refl

pub none-in : (draft : List ℕ) → draft ≡ [] → content_in Stopped draft ≡ []
none-in draft is = ap (content_in Stopped) is ∙ none

-- a draft that was begun
pub begun : (draft : List ℕ) → draft ≡ [] → IsDraft draft 0
begun draft is = record {
  size = ap length is;
  near = omega arith;
  blocks = λ how. subst (λ d. Runs how d (content_in Stopped draft) how) (sym is)
      (subst (λ content. Runs how [] content how) (sym (none-in draft is)) (λ more. refl));
}

module _ (draft bytes new : List ℕ) (len : ℕ) (d : IsDraft draft len) (small : length bytes < 2 ^ 64) (is : new ≡ draft ++ block 1 bytes) where
  longer : (how : Crash) → Runs how new (content_in Stopped draft ++ bytes) how
  longer how =
      subst (λ n. Runs how n (content_in Stopped draft ++ bytes) how) (sym is)
      (runs-join how how how draft (block 1 bytes) (content_in Stopped draft) bytes (d.blocks how) (runs-open how bytes small))

  -- what is in a draft to which a block was added
  pub added-content : content_in Stopped new ≡ content_in Stopped draft ++ bytes
  added-content =
      ap (content_in Stopped) (sym (append-nil new))
      ∙ runs-stop Stopped Stopped new (content_in Stopped draft ++ bytes) [] (longer Stopped) refl

  -- it is a draft
  pub added : len ≤ 2 ^ 60 → length bytes ≤ 2 ^ 60 → IsDraft new (len + (10 + length bytes))
  added near few = record {
    size = ap length is ∙ length-append draft (block 1 bytes)
        ∙ omega (arith, d.size, length-append (number (length bytes)) bytes, length-number (length bytes));
    near = omega (arith, near, few);
    blocks = λ how. subst (λ content. Runs how new content how) (sym added-content) (longer how);
  }

-- a draft with a mark behind it
module _ (draft file : List ℕ) (len : ℕ) (d : IsDraft draft len) (is : file ≡ draft ++ marks) where
  pub marked-has : AlwaysHas (content_in Stopped draft) file
  marked-has Killed = fresh-killed draft (content_in Stopped draft) file len d.blocks d.size [] is
  marked-has Stopped = fresh-stopped draft (content_in Stopped draft) file len d.blocks d.size [] is

  pub marked-rest : IsAtRest file len (len + 10)
  marked-rest = fresh-rest draft (content_in Stopped draft) file len d.blocks d.size [] is

module _ {D : Type 0} (seen : D → List ℕ) (moment : D → ℕ) (may_leave : D → Crash → List ℕ → Type 0)
    (left_since : D → Crash → ℕ → List ℕ → Type 0)
    (alive : (file : D) → Only (seen file) (may_leave file Killed))
    (counts_now : (file : D) (how : Crash) (t : ℕ) (c : List ℕ) → t ≤ moment file → may_leave file how c → left_since file how t c)
    (old new : D) where
  -- a call that changes nothing leaves no more
  pub no_more : ((how : Crash) → Passes moment may_leave left_since how IsSame old new) → NoMore (may_leave old) (may_leave new)
  no_more passes how c now =
      let after = (passes how).now c now in subst (may_leave old how) (sym after.2) after.1

  pub as_it_was : ((how : Crash) → Passes moment may_leave left_since how IsSame old new) → seen new ≡ seen old
      → {T E : Type 0} (r : Result T E) (If : Type 0) → OnErr r (If → (seen new ≡ seen old) × NoMore (may_leave old) (may_leave new))
  as_it_was passes same (Ok x) If = tt
  as_it_was passes same (Err e) If = λ so. (same, no_more passes)

  pub leaves_nothing : ((how : Crash) → Passes moment may_leave left_since how IsSame old new)
      → (how : Crash) → LeavesOnly moment left_since how Nothing old new
  leaves_nothing passes how = nothing-new seen moment may_leave left_since alive counts_now how Nothing old new (passes how)

  -- what begins so, still does
  pub begins_still : (n : ℕ) → ((how : Crash) → Passes moment may_leave left_since how IsSame old new) → seen new ≡ seen old
      → Begin n (seen old) (may_leave old Stopped) → Begin n (seen new) (may_leave new Stopped)
  begins_still n passes same begin c now = begin c (no_more passes Stopped c now) ∙ ap (take n) (sym same)

  -- a draft is put
  pub put_leaves : (draft : List ℕ) (how : Crash) (P : List ℕ → Type 0) → P draft
      → Passes moment may_leave left_since how (IsPut draft) old new → LeavesOnly moment left_since how P old new
  put_leaves draft how P has passes = record {
    later = passes.later;
    since = λ t c le left.
        ⊎_elim (λ before. inl before)
        (λ after. ⊎_elim (λ e. inl (counts_now old how t c le (subst (may_leave old how) (sym e) after.1)))
        (λ e. inr (subst P (sym e) has)) after.2)
        (passes.within t c le left);
  }

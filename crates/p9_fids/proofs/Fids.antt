-- The fids of a session are a session's fids again after each change of them.
use Rattle.std.proofs.Common.{◌≡◌, ℕ, ◌+◌, ◌<◌, ◌^◌, Bool, true, false, List, [], length}
use Rattle.std.proofs.Common.{Option}
use Rattle.std.proofs.Common.{Some, None, refl, is_some, arith}
use Rattle.std.proofs.Common.{◌∷◌}
use Rattle.std.specs.Prelude.{◌==◌, count_by, nat_le, nat_lt, if◌then◌else◌}
use Rattle.std.specs.List.{list_any}
use Rattle.std.specs.List.Sorted.{IsStrictlySortedBy}
use Rattle.std.specs.Ordering.{nat_cmp}
use Rattle.std.specs.Map.{set_value}
use Rattle.std.specs.BTreeMap.{is_at}
use Rattle.std.proofs.lemmas.Bool.Decides.{nat_tests}
use Rattle.std.proofs.lemmas.List.Sums.{sum_by-cons}
use Rattle.std.proofs.lemmas.Map.{length-set_value}
use Rattle.p9_base.specs.declared.fault.Fault.{Fault}
use Rattle.p9_base.specs.declared.fault.Fault.TheVariants.{FidInUse, TooManyFids, UnknownFid}
use Rattle.p9_base.proofs.Rising.{all_keys-insert, all_keys-remove, all_keys-set, length-insert}
use Rattle.p9_base.proofs.Rising.{length-remove, rising-insert, rising-remove, rising-set}
use Rattle.p9_fids.specs.Fid.{Fid, FidRow, changed_fid, fid_at, fids_max, nofid, put_fault}
use Rattle.p9_fids.specs.Fids.{IsFids}
use Rattle.p9_fids.specs.Fid.{with_fid, without_fid}

-- what holds of a fid that can be added
pub record CanPut (fid : ℕ) (fids : List FidRow) : Type 0 where
  pub other : (fid == nofid) ≡ false
  pub free : is_some (fid_at fid fids) ≡ false
  pub room : length fids < fids_max

none_refuses : (f1 f2 f3 : Fault) (a b c : Bool)
    → (if a then Some f1 else if b then Some f2 else if c then Some f3 else None) ≡ None
    → (a ≡ false) × (b ≡ false) × (c ≡ false)
none_refuses f1 f2 f3 true b c e = let no : Some f1 ≡ None = e in absurd (cc)
none_refuses f1 f2 f3 false true c e = let no : Some f2 ≡ None = e in absurd (cc)
none_refuses f1 f2 f3 false false true e = let no : Some f3 ≡ None = e in absurd (cc)
none_refuses f1 f2 f3 false false false e = (refl, refl, refl)

-- it holds where there is no fault
pub can_put : (fid : ℕ) (fids : List FidRow) → put_fault fid fids ≡ None → CanPut fid fids
can_put fid fids none =
    let c =
    none_refuses UnknownFid FidInUse TooManyFids (fid == nofid) (is_some (fid_at fid fids))
    (nat_le fids_max (length fids)) none in
    record { other = c.0; free = c.1; room = grind (arith, nat_tests, c.2) }

-- no fids
pub fids-none : IsFids []
unfolding IsStrictlySortedBy
fids-none = record { rising = tt; below = tt; few = omega arith }

-- with one more
pub fids-with : (fid : ℕ) (v : Fid) (fids : List FidRow) → fid < 2 ^ 32 → put_fault fid fids ≡ None
    → IsFids fids → IsFids (with_fid fid v fids)
fids-with fid v fids small none kept =
    let can = can_put fid fids none in
    let room = can.room in
    let other = can.other in
    record {
      rising = rising-insert fids fid v kept.rising;
      below =
          all_keys-insert {X = Fid} (λ k. k < nofid) fids fid v (grind (arith, nat_tests, other))
          kept.below;
      few = omega (arith, length-insert fids fid v);
    }

-- without one
pub fids-without : (fid : ℕ) (fids : List FidRow) → IsFids fids → IsFids (without_fid fid fids)
fids-without fid fids kept =
    let few = kept.few in
    record {
      rising = rising-remove (is_at (nat_cmp fid)) fids kept.rising;
      below = all_keys-remove {X = Fid} (λ k. k < nofid) (is_at (nat_cmp fid)) fids kept.below;
      few = omega (arith, length-remove (is_at (nat_cmp fid)) fids);
    }

-- with another in its place
pub fids-set : (test : ℕ → Bool) (fids : List FidRow) (v : Fid) → IsFids fids
    → IsFids (set_value test fids v)
fids-set test fids v kept =
    let few = kept.few in
    record {
      rising = rising-set test fids v kept.rising;
      below = all_keys-set {X = Fid} (λ k. k < nofid) test fids v kept.below;
      few = omega (arith, length-set_value test fids v);
    }

-- with a change of one
pub fids-changed : (fid : ℕ) (f : Fid → Fid) (fids : List FidRow) → IsFids fids
    → IsFids (changed_fid fid f fids)
fids-changed fid f fids kept = go (fid_at fid fids) refl
  where
    go : (o : Option Fid) → fid_at fid fids ≡ o → IsFids (changed_fid fid f fids)
    go None e = rw e kept
    go (Some v) e = rw e (fids-set (is_at (nat_cmp fid)) fids (f v) kept)

-- some pass where their count is above 0
pub any-counted : {X : Type 0} (p : X → Bool) (xs : List X)
    → list_any p xs ≡ nat_lt 0 (count_by p xs)
any-counted p [] = refl
any-counted p (x ∷ xs) =
    let step : count_by p (x ∷ xs) ≡ (if p x then 1 else 0) + count_by p xs =
    sum_by-cons (λ y. if p y then 1 else 0) x xs in
    grind (arith, nat_tests, step, any-counted p xs)

-- What the calls of a device do to its file, and what a crash leaves of it.
use Rattle.std.specs.Prelude.{◌<◌, ◌≡◌, ◌⊎◌, ℕ, ◌+◌, ◌≤◌, max, min, List, ◌++◌, length, take, drop}
use Rattle.std.specs.Prelude.{Result, IsErrOf}
use Rattle.p9_log.specs.declared.crash.Crash.{Crash}
use Rattle.p9_log.specs.declared.crash.Crash.TheVariants.{Killed, Stopped}
use Rattle.p9_log.specs.declared.device.DeviceError.{DeviceError}
use Rattle.p9_log.specs.declared.device.DeviceError.TheVariants.{Failed}

-- new is old with these bytes at this offset
abbrev pub Holds : List ℕ → ℕ → List ℕ → List ℕ → Type 0
Holds old at bytes new = new ≡ take at old ++ bytes ++ drop (at + length bytes) old

-- after a write of n bytes that a stop of the machine cuts short: any bytes in the range and past
-- the old end, the same elsewhere
pub record Torn (at n : ℕ) (old new : List ℕ) : Type 0 where
  pub before : take (min at (length old)) new ≡ take at old
  pub after : drop (at + n) new ≡ drop (at + n) old
  pub no_shorter : length old ≤ length new
  pub no_longer : length new ≤ max (length old) (at + n)

-- after a write within which there was such a crash: a front of the bytes, or any bytes in the range
abbrev pub IsWritten : Crash → ℕ → List ℕ → List ℕ → List ℕ → Type 0
IsWritten Killed at bytes old new = (n : ℕ) × Holds old at (take n bytes) new
IsWritten Stopped at bytes old new = Torn at (length bytes) old new

-- after a cut to n bytes within which there was a stop of the machine: a length between, any bytes
-- behind the cut, the same before it
pub record CutShort (n : ℕ) (old new : List ℕ) : Type 0 where
  pub no_shorter : min n (length old) ≤ length new
  pub no_longer : length new ≤ max n (length old)
  pub before : take (min n (length old)) new ≡ take n old

-- after a cut within which there was such a crash
abbrev pub IsCut : Crash → ℕ → List ℕ → List ℕ → Type 0
IsCut Killed n old new = (new ≡ old) ⊎ (new ≡ take n old)
IsCut Stopped n old new = CutShort n old new

-- after a draft is put in the place of the file, or wasn't
abbrev pub IsPut : (draft : List ℕ) → List ℕ → List ℕ → Type 0
IsPut draft old new = (new ≡ old) ⊎ (new ≡ draft)

-- after a call that changes nothing
abbrev pub IsSame : List ℕ → List ℕ → Type 0
IsSame old new = new ≡ old

-- the first n bytes are as they were, where so many were there
abbrev pub IsSameTo : (n : ℕ) → List ℕ → List ℕ → Type 0
IsSameTo n old new = take (min n (length old)) new ≡ take n old

-- a crash leaves this and nothing else
abbrev pub Only : List ℕ → (List ℕ → Type 0) → Type 0
Only file outcomes = (c : List ℕ) → outcomes c → c ≡ file

-- an outcome of a crash after a step is an outcome before it that took the step
abbrev pub After : (step : List ℕ → List ℕ → Type 0) → (List ℕ → Type 0) → List ℕ → Type 0
After step outcomes c = (d : List ℕ) × outcomes d × step d c

-- A call takes a step. What a crash of this kind leaves after the call is what it might have left
-- before, after the step, and so is what one within the call leaves.
pub record Passes {D : Type 0} (moment : D → ℕ) (may_leave : D → Crash → List ℕ → Type 0)
    (left_since : D → Crash → ℕ → List ℕ → Type 0) (how : Crash)
    (step : List ℕ → List ℕ → Type 0) (old new : D) : Type 0 where
  pub later : moment old ≤ moment new
  pub now : (c : List ℕ) → may_leave new how c → After step (may_leave old how) c
  pub within : (t : ℕ) (c : List ℕ) → t ≤ moment old → left_since new how t c
      → left_since old how t c ⊎ After step (may_leave old how) c
  pub keeps : (t : ℕ) (c : List ℕ) → t ≤ moment old → left_since old how t c
      → left_since new how t c

-- A crash of this kind at a moment since old leaves what it might have left before, or a file that
-- has P.
pub record LeavesOnly {D : Type 0} (moment : D → ℕ)
    (left_since : D → Crash → ℕ → List ℕ → Type 0) (how : Crash) (P : List ℕ → Type 0)
    (old new : D) : Type 0 where
  pub later : moment old ≤ moment new
  pub since : (t : ℕ) (c : List ℕ) → t ≤ moment old → left_since new how t c
      → left_since old how t c ⊎ P c

-- `Failed` is returned only where the device has failed since
pub record HasCause {T : Type 0} (before now : ℕ) (result : Result T DeviceError) : Type 0 where
  pub later : before ≤ now
  pub failed : IsErrOf result Failed → before < now

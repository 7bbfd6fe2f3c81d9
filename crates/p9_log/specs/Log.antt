-- What a crash within a call of a log leaves, and what a call that fails has changed.
use Rattle.std.specs.Prelude.{◌≡◌, ◌⊎◌, List, [], ◌++◌, ◌≤◌, length, Result, Ok, Err, ℕ}
use Rattle.p9_log.specs.declared.crash.Crash.{Crash}
use Rattle.p9_log.specs.declared.crash.Crash.TheVariants.{Killed, Stopped}
use Rattle.p9_log.specs.declared.error.LogError.{LogError}
use Rattle.p9_log.specs.declared.error.LogError.TheVariants.{Memory, Full, Ended, NoDraft, Device}
use Rattle.p9_log.specs.Blocks.{content_in}

-- each crash leaves a file in which there is what there is in this one, read as after such a crash
abbrev pub LeaveAsSeen : (file : List ℕ) → (Crash → List ℕ → Type 0) → Type 0
LeaveAsSeen file outcomes =
    (how : Crash) (c : List ℕ) → outcomes how c → content_in how c ≡ content_in how file

-- While bytes are added to a log in this file, a process that is killed leaves what was there, with
-- all of the bytes or without. A machine that stops leaves what was synced.
abbrev pub IsAppended : Crash → (file bytes : List ℕ) → List ℕ → Type 0
IsAppended Killed file bytes c =
    (content_in Killed c ≡ content_in Killed file)
    ⊎ (content_in Killed c ≡ content_in Killed file ++ bytes)
IsAppended Stopped file bytes c = content_in Stopped c ≡ content_in Stopped file

-- While a log in this file is synced, a process that is killed leaves what was there. A machine that
-- stops leaves what was synced before, or all that is synced now.
abbrev pub IsKept : Crash → (file : List ℕ) → List ℕ → Type 0
IsKept Killed file c = content_in Killed c ≡ content_in Killed file
IsKept Stopped file c =
    (content_in Stopped c ≡ content_in Stopped file) ⊎ (content_in Stopped c ≡ content_in Killed file)

-- this content is in a file, whichever way it is read
abbrev pub AlwaysHas : (content : List ℕ) → List ℕ → Type 0
AlwaysHas content c = (next : Crash) → content_in next c ≡ content

-- a crash of this kind leaves a file that is recovered as this content
abbrev pub StillHas : (kind : Crash) → (content : List ℕ) → List ℕ → Type 0
StillHas Killed content c = AlwaysHas content c
StillHas Stopped content c = content_in Stopped c ≡ content

-- While a file is emptied for a log, a crash leaves at most as many bytes as were there, or an empty
-- log.
abbrev pub IsCreated : (kind : Crash) → (file : List ℕ) → List ℕ → Type 0
IsCreated kind file c = (length c ≤ length file) ⊎ StillHas kind [] c

-- what holds where a call failed without a failure of the device
abbrev pub IfRefused : {T : Type 0} → Result T LogError → Type 0 → Type 0
IfRefused (Ok x) P = Unit {0}
IfRefused (Err Memory) P = P
IfRefused (Err Full) P = P
IfRefused (Err Ended) P = P
IfRefused (Err NoDraft) P = P
IfRefused (Err (Device error)) P = Unit {0}

-- While a file that a crash of the first kind left is recovered, one of the second kind leaves a file
-- that is recovered as the same content. A machine that stops after a process was killed may leave
-- what was synced before.
abbrev pub IsRecovered : (how kind : Crash) → (file : List ℕ) → List ℕ → Type 0
IsRecovered Killed kind file c = IsKept kind file c
IsRecovered Stopped kind file c = content_in Stopped c ≡ content_in Stopped file

-- no crash leaves what none might have left before
abbrev pub NoMore : (before now : Crash → List ℕ → Type 0) → Type 0
NoMore before now = (how : Crash) (c : List ℕ) → now how c → before how c

-- While a draft is written, a crash leaves nothing that it might not have left before.
abbrev pub Nothing : List ℕ → Type 0
Nothing c = ⊥

-- What a crash may leave of a file after these calls of the system, or within one of them.
use Rattle.std.specs.Prelude.{◌≡◌, ◌⊎◌, ◌≤◌, ℕ, false, List, [], ◌∷◌, length}
use Rattle.std.proofs.Common.{⊎_elim, arith}
use Rattle.p9_log.specs.declared.crash.Crash.{Crash}
use Rattle.p9_log.specs.declared.crash.Crash.TheVariants.{Killed, Stopped}
use Rattle.p9_log.specs.Device.{After, IsCut, IsPut, IsSame, IsWritten, Passes}
use Rattle.p9_disk.specs.Events.{Event, drafted, is_unsure, seen, opened, wrote, write_failed, cut_to, cut_failed, synced, draft_put, draft_renamed, put_failed}

-- what a crash within a call, or behind one that isn't synced, makes of the file; draft is the draft before it
abbrev pub step_of : Crash → Event → (draft : List ℕ) → List ℕ → List ℕ → Type 0
step_of how (opened bytes) draft = λ old new. new ≡ bytes
step_of how (wrote at bytes) draft = IsWritten how at bytes
step_of how (write_failed at bytes) draft = IsWritten how at bytes
step_of how (cut_to len) draft = IsCut how len
step_of how (cut_failed len) draft = IsCut how len
step_of how draft_put draft = IsPut draft
step_of how draft_renamed draft = IsPut draft
step_of how put_failed draft = IsPut draft
step_of how _ draft = IsSame

-- What a crash of this kind leaves after these calls, of which the newest comes first. A process that is
-- killed leaves what is seen. A machine that stops leaves that after a sync, and the draft after it was put,
-- unless a sync had failed before.
abbrev pub may_leave : Crash → List Event → List ℕ → Type 0
may_leave Killed events c = c ≡ seen events
may_leave Stopped [] c = c ≡ []
may_leave Stopped (opened bytes ∷ earlier) c = c ≡ bytes
may_leave Stopped (synced ∷ earlier) c = may_leave Stopped earlier c × (is_unsure earlier ≡ false → c ≡ seen earlier)
may_leave Stopped (draft_put ∷ earlier) c = After (IsPut (drafted earlier)) (may_leave Stopped earlier) c × (is_unsure earlier ≡ false → c ≡ drafted earlier)
may_leave Stopped (e ∷ earlier) c = After (step_of Stopped e (drafted earlier)) (may_leave Stopped earlier) c

-- what one within the newest call leaves
abbrev pub Within : Crash → Event → List Event → List ℕ → Type 0
Within how e earlier c = After (step_of how e (drafted earlier)) (may_leave how earlier) c

-- what one might have left since moment t, but before now; the moments count the calls
abbrev pub Earlier : Crash → ℕ → List Event → List ℕ → Type 0
Earlier how t [] c = ⊥
Earlier how t (e ∷ earlier) c = (t ≤ length earlier) × (Within how e earlier c ⊎ (may_leave how earlier c ⊎ Earlier how t earlier c))

-- what one might have left since moment t
abbrev pub left_since : Crash → ℕ → List Event → List ℕ → Type 0
left_since how t events c = may_leave how events c ⊎ Earlier how t events c

-- the calls from old to new take a step
abbrev pub Goes : Crash → (List ℕ → List ℕ → Type 0) → (old new : List Event) → Type 0
Goes how step old new = Passes (λ (events : List Event). length events) (λ events kind. may_leave kind events) (λ events kind t. left_since kind t events) how step old new

none_earlier : (how : Crash) (events : List Event) (c : List ℕ) → Earlier how (length events) events c → ⊥
none_earlier how [] c none = none
none_earlier how (e ∷ earlier) c (le, was) = absurd (omega (arith, le))

-- since now there is no other moment
pub only_now : (how : Crash) (events : List Event) (c : List ℕ) → left_since how (length events) events c → may_leave how events c
only_now how events c left = ⊎_elim (λ now. now) (λ was. absurd (none_earlier how events c was)) left

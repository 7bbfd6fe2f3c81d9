-- What a crash leaves after a call of a log.
use Rattle.std.proofs.Common.{◌≡◌, ◌⊎◌, inl, inr, ⊎_elim, ℕ, ◌≤◌, List, ◌++◌, ap, ◌∙◌, arith}
use Rattle.p9_log.specs.declared.crash.Crash.{Crash}
use Rattle.p9_log.specs.declared.crash.Crash.TheVariants.{Killed, Stopped}
use Rattle.p9_log.specs.Blocks.{content_in}
use Rattle.p9_log.specs.Device.{LeavesOnly}
use Rattle.p9_log.specs.Log.{IsAppended, IsKept}
use Rattle.p9_tree.specs.Server.{Server}
use Rattle.p9_kept.specs.Edits.{stood_for}
use Rattle.p9_kept.specs.Making.{IsAppendedAndKept, IsRenewed}

module _ {D : Type 0} (moment : D → ℕ) (may_leave : D → Crash → List ℕ → Type 0)
    (left_since : D → Crash → ℕ → List ℕ → Type 0)
    (counts_now : (file : D) (how : Crash) (t : ℕ) (c : List ℕ) → t ≤ moment file
    → may_leave file how c → left_since file how t c)
    (only_now : (file : D) (how : Crash) (c : List ℕ)
    → left_since file how (moment file) c → may_leave file how c) where
  -- it might have left that before, or it is left by the call
  pub left : (how : Crash) (P : List ℕ → Type 0) (old new : D)
      → LeavesOnly moment left_since how P old new → (c : List ℕ) → may_leave new how c
      → may_leave old how c ⊎ P c
  left how P old new leaves c now =
      ⊎_elim (λ before. inl (only_now old how c before)) (λ p. inr p)
      (leaves.since (moment old) c (omega arith) (counts_now new how (moment old) c leaves.later now))

  -- the forests that such a crash may leave
  abbrev pub Leaves : Crash → D → List Server → Type 0
  Leaves how device forest =
      (file : List ℕ) × may_leave device how file × (forest ≡ stood_for (content_in how file))

  -- while records are added, a process that is killed leaves those before or all, and a machine that
  -- stops what was synced
  pub appended-stay : (seen bytes : List ℕ) (old new : D)
      → LeavesOnly moment left_since Killed (IsAppended Killed seen bytes) old new
      → (forest : List Server) → Leaves Killed new forest
      → Leaves Killed old forest ⊎ (forest ≡ stood_for (content_in Killed seen))
      ⊎ (forest ≡ stood_for (content_in Killed seen ++ bytes))
  appended-stay seen bytes old new leaves forest is =
      ⊎_elim (λ before. inl (is.0, before, is.2))
      (λ p. inr (⊎_elim (λ e. inl (is.2 ∙ ap stood_for e)) (λ e. inr (is.2 ∙ ap stood_for e)) p))
      (left Killed (IsAppended Killed seen bytes) old new leaves is.0 is.1)

  pub appended-stand : (seen bytes : List ℕ) (old new : D)
      → LeavesOnly moment left_since Stopped (IsAppended Stopped seen bytes) old new
      → (forest : List Server) → Leaves Stopped new forest
      → Leaves Stopped old forest ⊎ (forest ≡ stood_for (content_in Stopped seen))
  appended-stand seen bytes old new leaves forest is =
      ⊎_elim (λ before. inl (is.0, before, is.2)) (λ e. inr (is.2 ∙ ap stood_for e))
      (left Stopped (IsAppended Stopped seen bytes) old new leaves is.0 is.1)

  -- the same while they are synced too, but that a machine that stops may leave all
  pub kept-stand : (seen bytes : List ℕ) (old new : D)
      → LeavesOnly moment left_since Stopped (IsAppendedAndKept Stopped seen bytes) old new
      → (forest : List Server) → Leaves Stopped new forest
      → Leaves Stopped old forest ⊎ (forest ≡ stood_for (content_in Stopped seen))
      ⊎ (forest ≡ stood_for (content_in Killed seen ++ bytes))
  kept-stand seen bytes old new leaves forest is =
      ⊎_elim (λ before. inl (is.0, before, is.2))
      (λ p. inr (⊎_elim (λ e. inl (is.2 ∙ ap stood_for e)) (λ e. inr (is.2 ∙ ap stood_for e)) p))
      (left Stopped (IsAppendedAndKept Stopped seen bytes) old new leaves is.0 is.1)

  -- while a journal is renewed, a crash may also leave the forest
  pub renewed-stay : (seen bytes : List ℕ) (forest : List Server) (old new : D)
      → LeavesOnly moment left_since Killed (IsRenewed Killed seen bytes forest) old new
      → (stays : List Server) → Leaves Killed new stays
      → Leaves Killed old stays ⊎ (stays ≡ stood_for (content_in Killed seen))
      ⊎ (stays ≡ stood_for (content_in Killed seen ++ bytes)) ⊎ (stays ≡ forest)
  renewed-stay seen bytes forest old new leaves stays is =
      ⊎_elim (λ before. inl (is.0, before, is.2))
      (λ p. inr (⊎_elim
      (λ q. ⊎_elim (λ e. inl (is.2 ∙ ap stood_for e)) (λ e. inr (inl (is.2 ∙ ap stood_for e))) q)
      (λ whole. inr (inr (is.2 ∙ whole Killed))) p))
      (left Killed (IsRenewed Killed seen bytes forest) old new leaves is.0 is.1)

  pub renewed-stand : (seen bytes : List ℕ) (forest : List Server) (old new : D)
      → LeavesOnly moment left_since Stopped (IsRenewed Stopped seen bytes forest) old new
      → (stands : List Server) → Leaves Stopped new stands
      → Leaves Stopped old stands ⊎ (stands ≡ stood_for (content_in Stopped seen)) ⊎ (stands ≡ forest)
  renewed-stand seen bytes forest old new leaves stands is =
      ⊎_elim (λ before. inl (is.0, before, is.2))
      (λ p. inr (⊎_elim (λ e. inl (is.2 ∙ ap stood_for e)) (λ whole. inr (is.2 ∙ whole Stopped)) p))
      (left Stopped (IsRenewed Stopped seen bytes forest) old new leaves is.0 is.1)

-- what a crash leaves while bytes are added, it leaves while they are added and synced
pub appended-kept : (how : Crash) (file bytes c : List ℕ) → IsAppended how file bytes c
    → IsAppendedAndKept how file bytes c
appended-kept Killed file bytes c is = is
appended-kept Stopped file bytes c is = inl is

-- and so is what it leaves while they are synced, after they were added
pub kept-appended : (how : Crash) (file bytes added c : List ℕ)
    → content_in Killed added ≡ content_in Killed file ++ bytes
    → content_in Stopped added ≡ content_in Stopped file
    → IsKept how added c → IsAppendedAndKept how file bytes c
kept-appended Killed file bytes added c written synced is = inr (is ∙ written)
kept-appended Stopped file bytes added c written synced is =
    ⊎_elim (λ e. inl (e ∙ synced)) (λ e. inr (e ∙ written)) is

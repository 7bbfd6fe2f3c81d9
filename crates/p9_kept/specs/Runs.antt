-- What a crash leaves of a journal's changes at each moment of a run of it.
use Rattle.std.specs.Prelude.{◌≡◌, ℕ, ◌+◌, ◌≤◌, List, [], ◌∷◌, ◌++◌, length, take}
use Rattle.p9_log.specs.declared.crash.Crash.{Crash}
use Rattle.p9_log.specs.declared.crash.Crash.TheVariants.{Killed, Stopped}
use Rattle.p9_log.specs.Blocks.{content_in}
use Rattle.p9_record.specs.Closed.{closed_spelling}
use Rattle.p9_record.specs.Record.{FitsForestEdit}
use Rattle.p9_tree.specs.ForestChange.{forest_edit_of}
use Rattle.p9_tree.specs.ForestEdit.{ForestEdit, all_forest_edited}
use Rattle.p9_tree.specs.Server.{Server}
use Rattle.p9_kept.specs.declared.living.Step.{Step}
use Rattle.p9_kept.specs.declared.living.Step.TheVariants.{Note, Settle, Sync}
use Rattle.p9_kept.specs.Edits.{stood_for}

-- the changes that are noted in these steps
abbrev pub edits_of : List Step → List ForestEdit
edits_of [] = []
edits_of (Note change ∷ steps) = forest_edit_of change ∷ edits_of steps
edits_of (Settle ∷ steps) = edits_of steps
edits_of (Sync ∷ steps) = edits_of steps

-- how many changes outlast such a crash after a settling, of those noted and those that did before
abbrev pub settled_by : Crash → (noted kept : ℕ) → ℕ
settled_by Killed noted kept = noted
settled_by Stopped noted kept = kept

-- How many changes outlast such a crash after these steps, whenever it comes: those noted before the last
-- settling where the process is killed, and before the last sync where the machine stops. So many were
-- noted and are kept before the steps.
abbrev pub kept_after : Crash → (noted kept : ℕ) → List Step → ℕ
kept_after how noted kept [] = kept
kept_after how noted kept (Note change ∷ steps) = kept_after how (noted + 1) kept steps
kept_after how noted kept (Settle ∷ steps) =
    kept_after how noted (settled_by how noted kept) steps
kept_after how noted kept (Sync ∷ steps) = kept_after how noted noted steps

-- the forest after the first n changes
abbrev pub after_changes : (n : ℕ) → List Step → List Server → List Server
after_changes n steps forest = all_forest_edited (take n (edits_of steps)) forest

-- what a step does to a file and to what was noted
abbrev pub IsTaken : Step → (file noted file' noted' : List ℕ) → Type 0
IsTaken (Note change) file noted file' noted' =
    (file' ≡ file) × (noted' ≡ noted ++ closed_spelling (forest_edit_of change))
    × FitsForestEdit (forest_edit_of change)
IsTaken Settle file noted file' noted' =
    (content_in Killed file' ≡ content_in Killed file ++ noted)
    × (content_in Stopped file' ≡ content_in Stopped file) × (noted' ≡ [])
IsTaken Sync file noted file' noted' =
    (content_in Killed file' ≡ content_in Killed file ++ noted)
    × (content_in Stopped file' ≡ content_in Killed file ++ noted) × (noted' ≡ [])

-- A file and what was noted behind it are those after some of the steps: what is settled stands for the
-- changes that outlast a killed process, what is synced for those that outlast a machine that stops, and
-- with what was noted it stands for all.
pub record IsAfter (steps taken : List Step) (forest : List Server) (file noted : List ℕ) : Type 0 where
  pub settled : stood_for (content_in Killed file)
      ≡ after_changes (kept_after Killed 0 0 taken) steps forest
  pub synced : stood_for (content_in Stopped file)
      ≡ after_changes (kept_after Stopped 0 0 taken) steps forest
  pub stands : stood_for (content_in Killed file ++ noted)
      ≡ after_changes (length (edits_of taken)) steps forest

-- In a run there is a device on which these steps were taken, and each crash since leaves the forest after
-- the first n changes, for an n that is not below the number of those that outlast it by then.
pub record Lives {D : Type 0} (seen : D → List ℕ) (moment : D → ℕ)
    (left_since : D → Crash → ℕ → List ℕ → Type 0) (how : Crash) (steps taken : List Step)
    (forest : List Server) (old new : D) : Type 0 where
  pub at_then : D
  pub noted : List ℕ
  pub is : IsAfter steps taken forest (seen at_then) noted
  pub later : moment old ≤ moment at_then
  pub before : moment at_then ≤ moment new
  pub leaves : (c : List ℕ) → left_since new how (moment at_then) c → (n : ℕ)
      × (kept_after how 0 0 taken ≤ n) × (n ≤ length (edits_of steps))
      × (stood_for (content_in how c) ≡ after_changes n steps forest)

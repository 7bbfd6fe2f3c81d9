-- How far a file has been read, block by block.
use Rattle.std.specs.Prelude.{◌≡◌, ◌⊎◌, ℕ, ◌+◌, ◌≤◌, ◌==◌, false, List, ◌∷◌, ◌++◌, Option, Some, None}
use Rattle.std.specs.Prelude.{◌-◌, length, reverse, take}
use Rattle.std.specs.List.{prefix_len}
use Rattle.p9_log.specs.declared.crash.Crash.{Crash}
use Rattle.p9_log.specs.declared.crash.Crash.TheVariants.{Killed, Stopped}
use Rattle.p9_log.specs.Blocks.{block_at, content_in}
use Rattle.p9_log.specs.Rest.{Parts, Runs}

-- where the closed sync gate is, if the blocks behind this offset are read in another way
abbrev pub closed_at : (mode after : Crash) → (at : ℕ) → Option ℕ → Option ℕ
closed_at Killed Stopped at kept = Some at
closed_at Killed Killed at kept = kept
closed_at Stopped after at kept = kept

-- a file's blocks, with all sync gates open, or with the one at this offset closed
abbrev pub HasBlocks : (how mode : Crash) → (file front bytes : List ℕ) → Option ℕ → Type 0
HasBlocks how mode file front bytes None = (mode ≡ how) × ((x : Crash) → Runs x front bytes x)
HasBlocks how mode file front bytes (Some kept) =
    (synced : List ℕ) × (gate : ℕ) × (rest : List ℕ) × (front ≡ synced ++ gate ∷ rest)
    × (kept ≡ length synced) × ((gate == 1) ≡ false) × (how ≡ Killed) × (mode ≡ Stopped)
    × Parts gate synced rest (content_in Stopped file) bytes

-- the file was read so far: these bytes are in its blocks, and this is behind them
pub record IsReadTo (how mode : Crash) (file rest bytes : List ℕ) (kept : Option ℕ) : Type 0 where
  pub front : List ℕ
  pub whole : file ≡ front ++ rest
  pub content : content_in how file ≡ bytes ++ content_in mode rest
  pub blocks : HasBlocks how mode file front bytes kept

-- how many bytes there are up to the last that isn't 0
abbrev pub len_without_zeros : List ℕ → ℕ
len_without_zeros bytes = length bytes - prefix_len (λ byte. byte == 0) (reverse bytes)

-- all its blocks were read, and end there; so many bytes are behind them
pub record IsFound (how : Crash) (file bytes : List ℕ) (end behind : ℕ) (kept : Option ℕ) : Type 0 where
  pub mode : Crash
  pub rest : List ℕ
  pub read : IsReadTo how mode file rest bytes kept
  pub size : length rest ≡ behind
  pub ends : end + behind ≡ length file
  pub none : block_at mode rest ≡ None

-- the file is cut to so many bytes: these are there, and any others behind them
abbrev pub IsCutTo : (n : ℕ) → (file : List ℕ) → List ℕ → Type 0
IsCutTo n file c = (take n c ≡ take n file) × (n ≤ length c) × (length c ≤ length file)

-- The file is cut behind its blocks, which end here. Of what was there, the gates and the size of a
-- block are as they were, or there are at most as many bytes.
abbrev pub IsCutBehind : (end : ℕ) → (file : List ℕ) → List ℕ → Type 0
IsCutBehind end file c =
    IsCutTo end file c × ((take (end + 10) c ≡ take (end + 10) file) ⊎ (length c ≤ end + 10))

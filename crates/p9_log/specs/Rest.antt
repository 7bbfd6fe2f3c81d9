-- A file at rest: blocks, with a closed sync gate before what was written since the last sync, and
-- behind them an open sync gate and a closed write gate. What is behind these counts for nothing.
use Rattle.std.specs.Prelude.{◌≡◌, ℕ, ◌+◌, ◌-◌, ◌<◌, ◌≤◌, ◌==◌, false, List, [], ◌∷◌, ◌++◌, None}
use Rattle.std.specs.Prelude.{length, get_or, take, drop}
use Rattle.p9_log.specs.declared.crash.Crash.{Crash}
use Rattle.p9_log.specs.declared.crash.Crash.TheVariants.{Killed, Stopped}
use Rattle.p9_log.specs.Blocks.{number, block_at, content_in}

-- a block of these bytes, whose write gate is open
abbrev pub block : (synced : ℕ) → List ℕ → List ℕ
block synced bytes = synced ∷ 1 ∷ number (length bytes) ++ bytes

-- the bytes of a block in a buffer: those up to an index, behind the room for a head
abbrev pub held : List ℕ → (end : ℕ) → List ℕ
held buffer end = take (end - 10) (drop 10 buffer)

-- what a block is written as behind its gates, and the gates of the next
abbrev pub staged : List ℕ → List ℕ
staged bytes = number (length bytes) ++ bytes ++ 1 ∷ 0 ∷ []

-- a block without bytes, whose sync gate is closed, and the gates of the next
abbrev pub mark : List ℕ
mark = block 0 [] ++ 1 ∷ 0 ∷ []

-- Read so, a file that begins with this front has this content, and then that of what is behind the
-- front, read in the other way.
abbrev pub Runs : Crash → (front content : List ℕ) → Crash → Type 0
Runs how front content after =
    (more : List ℕ) → content_in how (front ++ more) ≡ content ++ content_in after more

-- blocks, with this sync gate before those that were written since the last sync
pub record Parts (gate : ℕ) (front rest synced content : List ℕ) : Type 0 where
  pub kept : (how : Crash) → Runs how front synced how
  pub written : Runs Killed (front ++ gate ∷ rest) content Stopped
  pub opened : (how : Crash) → Runs how (front ++ 1 ∷ rest) content how

-- what is behind one offset and before another
abbrev pub between : (kept end : ℕ) → List ℕ → List ℕ
between kept end file = drop (kept + 1) (take end file)

-- A file by two offsets: blocks up to the second, with a closed sync gate at the first, and behind
-- them what is no block.
pub record IsSplit (file : List ℕ) (kept end : ℕ) : Type 0 where
  pub order : kept < end
  pub size : end ≤ length file
  pub whole : file ≡ (take kept file ++ get_or file kept 0 ∷ between kept end file) ++ drop end file
  pub gate : (get_or file kept 0 == 1) ≡ false
  pub tail : block_at Stopped (drop end file) ≡ None
  pub parts : Parts (get_or file kept 0) (take kept file) (between kept end file)
      (content_in Stopped file) (content_in Killed file)

-- a file at rest: the gates of the next block are behind the blocks, and anything behind these
pub record IsAtRest (file : List ℕ) (kept end : ℕ) : Type 0 where
  pub split : IsSplit file kept end
  pub next : drop end file ≡ 1 ∷ 0 ∷ drop (end + 2) file

-- each outcome of a crash begins as the file does, for so many bytes
abbrev pub Begin : ℕ → List ℕ → (List ℕ → Type 0) → Type 0
Begin n file outcomes = (c : List ℕ) → outcomes c → take n c ≡ take n file

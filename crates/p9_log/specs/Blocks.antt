-- A file of blocks. A block is a sync gate, a write gate, the number of its bytes in eight bytes, and
-- its bytes. A gate is open where it is 1.
use Rattle.std.specs.Prelude.{◌≡◌, ℕ, zero, suc, ◌==◌, Bool, false, List, [], ◌∷◌, ◌++◌}
use Rattle.std.specs.Prelude.{Option, Some, None, length, take, drop, nat_lt, if◌then◌else◌}
use Rattle.byteorder.specs.Endian.{little_bytes, little_number}
use Rattle.p9_log.specs.declared.crash.Crash.{Crash}
use Rattle.p9_log.specs.declared.crash.Crash.TheVariants.{Killed, Stopped}

-- a number in eight bytes, the lowest first
unfoldable pub number : ℕ → List ℕ
number n = little_bytes 8 n

-- what a function returned, seen by view, is what reading gives
abbrev pub Gives : {X Y : Type 0} → (X → Y) → Option X → Option Y → Type 0
Gives view None read = read ≡ None
Gives view (Some x) read = read ≡ Some (view x)

-- so many bytes, and those behind them
abbrev pub bytes_at : ℕ → List ℕ → Option (List ℕ × List ℕ)
bytes_at n bytes = if nat_lt (length bytes) n then None else Some (take n bytes, drop n bytes)

-- a number in eight bytes and so many bytes, and those behind them
unfoldable pub sized_at : List ℕ → Option (List ℕ × List ℕ)
sized_at bytes =
    if nat_lt (length bytes) 8 then None else bytes_at (little_number 8 bytes) (drop 8 bytes)

-- Whether a block with these gates counts after such a crash. Where the machine stopped, both have to
-- be open.
abbrev pub counts : Crash → (synced written : ℕ) → Bool
counts Killed synced written = written == 1
counts Stopped synced written = if synced == 1 then written == 1 else false

-- How the blocks behind a block with this sync gate are read. What a killed process wrote since the
-- last sync is behind one closed sync gate, and counts up to the next.
abbrev pub behind : Crash → (synced : ℕ) → Crash
behind Killed synced = if synced == 1 then Killed else Stopped
behind Stopped synced = Stopped

-- the bytes of a block, how those behind it are read, and what is behind it
abbrev pub with_behind : Crash → Option (List ℕ × List ℕ) → Option (List ℕ × Crash × List ℕ)
with_behind how None = None
with_behind how (Some x) = Some (x.0, how, x.1)

-- the first block, where it counts and is whole
abbrev pub block_at : Crash → List ℕ → Option (List ℕ × Crash × List ℕ)
block_at how [] = None
block_at how (synced ∷ []) = None
block_at how (synced ∷ written ∷ rest) =
    if counts how synced written then with_behind (behind how synced) (sized_at rest) else None

abbrev pub content_after : (Crash → List ℕ → List ℕ) → Option (List ℕ × Crash × List ℕ) → List ℕ
content_after others None = []
content_after others (Some x) = x.0 ++ others x.1 x.2

abbrev pub content_by : (most : ℕ) → Crash → List ℕ → List ℕ
content_by zero how file = []
content_by (suc most) how file = content_after (content_by most) (block_at how file)

-- what a file that such a crash left has in it: the bytes of its blocks, one after another, up to the
-- first that doesn't count
unfoldable pub content_in : Crash → List ℕ → List ℕ
content_in how file = content_by (length file) how file

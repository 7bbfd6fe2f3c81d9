-- What is in a buffer after a writer.
use Rattle.std.specs.Prelude.{◌≡◌, ℕ, ◌+◌, List, ◌++◌, length, take, drop}

-- the bytes are from one index on and end before the next; all in front of them and after them
-- is as it was
pub record Puts (bytes : List ℕ) (at next : ℕ) (old new : List ℕ) : Type 0 where
  pub ends : next ≡ at + length bytes
  pub front : take next new ≡ take at old ++ bytes
  pub back : drop next new ≡ drop next old

-- the spelling is at the front and ends there, and what was after it stays
pub record Writes (spelling : List ℕ) (end : ℕ) (old new : List ℕ) : Type 0 where
  pub ends : end ≡ length spelling
  pub bytes : new ≡ spelling ++ drop end old

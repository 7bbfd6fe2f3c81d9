-- The bytes of a file, as read(5) has them.
use Rattle.std.specs.Prelude.{ℕ, ◌+◌, List, ◌++◌, length, take, drop}
use Rattle.p9_base.specs.Text.{padded}

-- the most bytes that a file has
abbrev pub file_max : ℕ
file_max = 16777216

-- up to count bytes from the offset on, as many as are there
abbrev pub read_from : (offset count : ℕ) (old : List ℕ) → List ℕ
read_from offset count old = take count (drop offset old)

-- the bytes after a write at the offset; a gap before it is filled with zeros
abbrev pub overwritten : (offset : ℕ) (bytes old : List ℕ) → List ℕ
overwritten offset bytes old =
    take offset (padded offset old) ++ bytes ++ drop (offset + length bytes) old

-- the first bytes, so many or all where they are fewer
abbrev pub cut_to : (size : ℕ) (old : List ℕ) → List ℕ
cut_to size old = take size old

-- this many bytes: the first of them, or all of them and zeros after
abbrev pub resized : (size : ℕ) (old : List ℕ) → List ℕ
resized size old = take size (padded size old)

-- the bytes over the front of the buffer, the rest of which stays
abbrev pub put_front : (bytes buffer : List ℕ) → List ℕ
put_front bytes buffer = bytes ++ drop (length bytes) buffer

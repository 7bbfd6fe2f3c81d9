-- What a transfer that failed did to the bytes of a stream.
use Rattle.std.specs.Prelude.{ℕ, List, Option, take}
use Rattle.std.specs.Io.KnownBytes.{Appends}

-- a front of these bytes was written, and nothing else
abbrev pub AppendsFront : Option (List ℕ) → Option (List ℕ) → List ℕ → Type 0
AppendsFront contents contents' bytes = (n : ℕ) × Appends contents contents' (take n bytes)

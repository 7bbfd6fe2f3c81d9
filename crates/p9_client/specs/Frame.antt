-- The frame of a reply, by its size.
use Rattle.std.specs.Prelude.{◌≡◌, ℕ, ◌<◌, ◌≤◌, ◌⊎◌, List, length}
use Rattle.byteorder.specs.Endian.{little_number}

-- it has a header at least, and as many bytes as its size says
abbrev pub HasSize : List ℕ → Type 0
HasSize frame = (7 ≤ length frame) × (little_number 4 frame ≡ length frame)

-- a frame that begins so is shorter than a header, or longer than the greatest one
abbrev pub IsBadSize : (most : ℕ) → List ℕ → Type 0
IsBadSize most bytes = (little_number 4 bytes < 7) ⊎ (most < little_number 4 bytes)

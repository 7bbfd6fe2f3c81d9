-- The modes of what is packed.
use Rattle.std.specs.Prelude.{ℕ, ◌%◌, Option, None, Some, nat_le, if◌then◌else◌}

-- the nine permission bits of a mode
abbrev pub kept_bits : ℕ → ℕ
kept_bits mode = mode % 512

-- the twelve bits of a mode, where a world doesn't keep them all
abbrev pub lost_mode : ℕ → Option ℕ
lost_mode mode = if nat_le 512 (mode % 4096) then Some (mode % 4096) else None

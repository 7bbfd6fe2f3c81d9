-- When the entries of a directory may be exchanged while they are opened.
use Rattle.std.specs.Prelude.{ℕ, ◌+◌, ◌==◌, ◌&&◌, ◌||◌, Bool, bit_and, nat_le, not}

-- the owner is somebody else than the user and root, or the group or others may write
abbrev pub may_others_write : ℕ → ℕ → ℕ → Bool
may_others_write user owner mode =
    (not (owner == user) && not (owner == 0)) || not (bit_and mode 18 == 0)

-- ten seconds went by since the change
abbrev pub is_at_rest : ℕ → ℕ → Bool
is_at_rest changed now = nat_le (changed + 10) now

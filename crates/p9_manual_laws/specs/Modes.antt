-- What open(5) says of the mode of a new file, as its octal formula.
use Rattle.std.specs.Prelude.{◌≡◌, ℕ, ◌-◌, ◌^◌, bit_and, bit_or, if◌then◌else◌}
use Rattle.p9_base.specs.declared.mode.Mode.{Mode}
use Rattle.p9_base.specs.Mode.{is_dir, mode_bits}
use Rattle.p9_step.specs.Inherit.{inherited}

-- 0666 in octal
abbrev pub file_mask : ℕ
file_mask = 438

-- 0777 in octal
abbrev pub dir_mask : ℕ
dir_mask = 511

-- perm & (~mask | (dir & mask)), of the 32 bits of modes
abbrev pub masked : (mask perm dir : ℕ) → ℕ
masked mask perm dir = bit_and perm (bit_or (2 ^ 32 - 1 - mask) (bit_and dir mask))

-- the mode of a file that is made in a directory: perm & (~0666 | (dir & 0666)), and that of a
-- directory perm & (~0777 | (dir & 0777))
abbrev pub IsMasked : (made dir : Mode) → (perm : ℕ) → Type 0
IsMasked made dir perm =
    mode_bits made
    ≡ masked (if is_dir made then dir_mask else file_mask) perm (mode_bits dir)

-- so is the mode that a new file gets
abbrev pub NewModeIsMasked : Type 0
NewModeIsMasked =
    (dir asked : Mode) → IsMasked (inherited dir.permissions asked) dir (mode_bits asked)

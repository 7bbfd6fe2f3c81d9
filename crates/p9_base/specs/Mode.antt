-- A node's mode and its bits, as stat(5).
use Rattle.std.specs.Prelude.{ℕ, ◌+◌, ◌-◌, ◌*◌, ◌/◌, ◌%◌, ◌^◌, ◌==◌, Bool, true, false, not}
use Rattle.std.specs.Prelude.{bit_and, nat_le, Option, Some, None, if◌then◌else◌}
use Rattle.std.specs.Option.{option_map}
use Rattle.p9_base.specs.declared.mode.Rights.{Rights}
use Rattle.p9_base.specs.declared.mode.Permissions.{Permissions}
use Rattle.p9_base.specs.declared.mode.FileFlags.{FileFlags}
use Rattle.p9_base.specs.declared.mode.Kind.{Kind}
use Rattle.p9_base.specs.declared.mode.Kind.TheVariants.{Directory, File}
use Rattle.p9_base.specs.declared.mode.Mode.{Mode}

-- a bit, where it is set
abbrev pub bit : Bool → ℕ → ℕ
bit b n = if b then n else 0

-- read, write, execute
abbrev pub rights_bits : Rights → ℕ
rights_bits r = bit r.read 4 + bit r.write 2 + bit r.execute 1

-- three octal digits: the owner's, the group's, the others'
abbrev pub permissions_bits : Permissions → ℕ
permissions_bits p = 64 * rights_bits p.owner + 8 * rights_bits p.group + rights_bits p.others

-- a file's flags, each the manual's bit of a mode
abbrev pub flags_bits : FileFlags → ℕ
flags_bits f = bit f.append_only (2 ^ 30) + bit f.exclusive (2 ^ 29) + bit f.temporary (2 ^ 26)

-- the flags that are set among the bits
abbrev pub flags_among : ℕ → FileFlags
flags_among bits = record {
  append_only = not (bit_and bits (2 ^ 30) == 0);
  exclusive = not (bit_and bits (2 ^ 29) == 0);
  temporary = not (bit_and bits (2 ^ 26) == 0);
}

-- the bits above the permissions
abbrev pub kind_bits : Kind → ℕ
kind_bits Directory = 2 ^ 31
kind_bits (File f) = flags_bits f

-- the number that a message carries for a mode
abbrev pub mode_bits : Mode → ℕ
mode_bits m = kind_bits m.kind + permissions_bits m.permissions

-- whether a kind is a directory's
abbrev pub is_dir_kind : Kind → Bool
is_dir_kind Directory = true
is_dir_kind (File f) = false

-- whether a mode is a directory's
abbrev pub is_dir : Mode → Bool
is_dir m = is_dir_kind m.kind

-- the type that a qid has for a mode: the mode shifted right by 24
abbrev pub qid_kind : Mode → ℕ
qid_kind m = mode_bits m / 2 ^ 24

-- The mode of a number.

-- the rights of three bits
abbrev pub rights_of : ℕ → Rights
rights_of bits = record { read = bits / 4 == 1; write = bits / 2 % 2 == 1; execute = bits % 2 == 1 }

-- the bits of permissions are the numbers below this
abbrev pub permissions_end : ℕ
permissions_end = 512

-- the permissions of nine bits
abbrev pub permissions_of : ℕ → Permissions
permissions_of bits = record {
  owner = rights_of (bits / 64);
  group = rights_of (bits / 8 % 8);
  others = rights_of (bits % 8);
}

-- the one kind of which these may be the bits
abbrev pub kind_among : ℕ → Kind
kind_among bits = if nat_le (2 ^ 31) bits then Directory else File (flags_among bits)

-- the kind whose bits these are, if they are a kind's
abbrev pub kind_of : ℕ → Option Kind
kind_of bits = if kind_bits (kind_among bits) == bits then Some (kind_among bits) else None

-- the mode whose bits these are, if they are a mode's
abbrev pub mode_of : ℕ → Option Mode
mode_of bits =
    option_map
    (λ kind. record { kind = kind; permissions = permissions_of (bits % permissions_end) })
    (kind_of (bits - bits % permissions_end))

-- The modes that words write.
use Rattle.std.specs.Prelude.{ℕ, ◌+◌, ◌-◌, ◌*◌, ◌==◌, ◌&&◌, Bool, false, nat_le, List, []}
use Rattle.std.specs.Prelude.{◌∷◌, Option, Some, None, drop, if◌then◌else◌}
use Rattle.std.specs.Option.{option_map}
use Rattle.p9_base.specs.declared.mode.Mode.{Mode}
use Rattle.p9_base.specs.declared.mode.Permissions.{Permissions}
use Rattle.p9_base.specs.declared.mode.Kind.TheVariants.{Directory, File}
use Rattle.p9_base.specs.Mode.{permissions_of}

-- '0' to '7'
abbrev pub is_octal_digit : ℕ → Bool
is_octal_digit b = nat_le 48 b && nat_le b 55

-- the permissions that three octal digits write: the owner's, the group's, the others'
abbrev pub permissions_in : List ℕ → Option Permissions
permissions_in (owner ∷ group ∷ others ∷ []) =
    if is_octal_digit owner && is_octal_digit group && is_octal_digit others
    then Some (permissions_of (64 * (owner - 48) + 8 * (group - 48) + (others - 48)))
    else None
permissions_in other = None

-- whether a word begins with the letter
abbrev pub begins_with : ℕ → List ℕ → Bool
begins_with letter [] = false
begins_with letter (b ∷ bs) = b == letter

-- what follows the letter, or the word where it doesn't begin with it
abbrev pub behind : ℕ → List ℕ → List ℕ
behind letter word = if begins_with letter word then drop 1 word else word

-- the mode of a file: the letters 'a' for append-only, 'l' for exclusive use and 't' for temporary,
-- in this order and each once or not at all, and then the permissions
abbrev pub file_mode_in : List ℕ → Option Mode
file_mode_in word =
    let behind_a = behind 97 word in
    let behind_l = behind 108 behind_a in
    let behind_t = behind 116 behind_l in
    option_map (λ permissions. record {
      kind = File (record {
        append_only = begins_with 97 word;
        exclusive = begins_with 108 behind_a;
        temporary = begins_with 116 behind_l;
      });
      permissions = permissions;
    }) (permissions_in behind_t)

-- the mode of a directory
abbrev pub dir_mode : Permissions → Mode
dir_mode permissions = record { kind = Directory; permissions = permissions }

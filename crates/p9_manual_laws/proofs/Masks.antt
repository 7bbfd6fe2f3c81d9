-- The mode of a new file by the octal formula: each digit of the permissions by itself, and the bits
-- above them.
use Rattle.std.proofs.Common.{◌≡◌, ℕ, ◌+◌, ◌-◌, ◌*◌, ◌/◌, ◌%◌, ◌<◌, ◌^◌, Bool, true, false, refl}
use Rattle.std.proofs.Common.{sym, ap, ◌∙◌, lit<, arith, mod-eq_of_lt}
use Rattle.std.specs.Prelude.{◌==◌, Some, None, bit_and, bit_or, if◌then◌else◌}
use Rattle.std.proofs.lemmas.Bool.Decides.{nat_tests}
use Rattle.std.proofs.lemmas.Nat.{and_block, and_le_r, and_mask, or_block, or_lt}
use Rattle.p9_base.specs.declared.mode.Kind.{Kind}
use Rattle.p9_base.specs.declared.mode.Kind.TheVariants.{Directory, File}
use Rattle.p9_base.specs.declared.mode.Mode.{Mode}
use Rattle.p9_base.specs.declared.mode.Permissions.{Permissions}
use Rattle.p9_base.specs.declared.mode.Rights.{Rights}
use Rattle.p9_base.specs.Mode.{flags_bits, is_dir, kind_bits, mode_bits, permissions_bits}
use Rattle.p9_base.specs.Mode.{kind_among, mode_of, permissions_end, permissions_of, rights_bits}
use Rattle.p9_base.specs.Mode.{rights_of}
use Rattle.p9_base.proofs.Modes.{kind_bits-mode_bits}
use Rattle.p9_step.specs.Inherit.{dir_rights, file_rights, in_each, inherited}
use Rattle.p9_manual_laws.specs.Modes.{NewModeIsMasked, dir_mask, file_mask, masked}

-- a digit behind others
behind : ℕ → ℕ → ℕ
behind a b = a * 2 ^ 3 + b

-- the bits of both numbers, digit by digit
and_behind : (a b c d : ℕ) → b < 2 ^ 3 → d < 2 ^ 3
    → bit_and (behind a b) (behind c d) ≡ behind (bit_and a c) (bit_and b d)
unfolding behind
and_behind a b c d small few = and_block 3 a c b d small few

-- the bits of one of both, digit by digit
or_behind : (a b c d : ℕ) → b < 2 ^ 3 → d < 2 ^ 3
    → bit_or (behind a b) (behind c d) ≡ behind (bit_or a c) (bit_or b d)
unfolding behind
or_behind a b c d small few = or_block 3 a c b d small few

-- what holds of three bits in each of their eight cases
of_three : (P : Bool → Bool → Bool → Type 0)
    → P true true true → P true true false → P true false true → P true false false
    → P false true true → P false true false → P false false true → P false false false
    → (a b c : Bool) → P a b c
of_three P p q r s t u v w true true true = p
of_three P p q r s t u v w true true false = q
of_three P p q r s t u v w true false true = r
of_three P p q r s t u v w true false false = s
of_three P p q r s t u v w false true true = t
of_three P p q r s t u v w false true false = u
of_three P p q r s t u v w false false true = v
of_three P p q r s t u v w false false false = w

-- the rights to read, to write and to execute
abbrev of_bits : Bool → Bool → Bool → Rights
of_bits a b c = record { read = a; write = b; execute = c }

-- the formula for one digit, with the mask's digit and the others of the seven
abbrev digit : ℕ → ℕ → Rights → Rights → ℕ
digit mask others dir asked =
    bit_and (rights_bits asked) (bit_or others (bit_and (rights_bits dir) mask))

-- the formula says what the rights of a new file are, for these rights asked, and those of the
-- directory
abbrev IsDigit : (Rights → Rights → Rights) → ℕ → ℕ → Bool → Bool → Bool → Bool → Bool → Bool
    → Type 0
IsDigit given mask others a b c d e f =
    rights_bits (given (of_bits d e f) (of_bits a b c))
    ≡ digit mask others (of_bits d e f) (of_bits a b c)

-- in a file 6 of a digit are masked, in a directory 7
file_digit : (dir asked : Rights) → rights_bits (file_rights dir asked) ≡ digit 6 1 dir asked
file_digit dir asked =
    of_three (λ a b c. (d e f : Bool) → IsDigit file_rights 6 1 a b c d e f)
    (of_three (IsDigit file_rights 6 1 true true true) refl refl refl refl refl refl refl refl)
    (of_three (IsDigit file_rights 6 1 true true false) refl refl refl refl refl refl refl refl)
    (of_three (IsDigit file_rights 6 1 true false true) refl refl refl refl refl refl refl refl)
    (of_three (IsDigit file_rights 6 1 true false false) refl refl refl refl refl refl refl refl)
    (of_three (IsDigit file_rights 6 1 false true true) refl refl refl refl refl refl refl refl)
    (of_three (IsDigit file_rights 6 1 false true false) refl refl refl refl refl refl refl refl)
    (of_three (IsDigit file_rights 6 1 false false true) refl refl refl refl refl refl refl refl)
    (of_three (IsDigit file_rights 6 1 false false false) refl refl refl refl refl refl refl refl)
    asked.read asked.write asked.execute dir.read dir.write dir.execute

dir_digit : (dir asked : Rights) → rights_bits (dir_rights dir asked) ≡ digit 7 0 dir asked
dir_digit dir asked =
    of_three (λ a b c. (d e f : Bool) → IsDigit dir_rights 7 0 a b c d e f)
    (of_three (IsDigit dir_rights 7 0 true true true) refl refl refl refl refl refl refl refl)
    (of_three (IsDigit dir_rights 7 0 true true false) refl refl refl refl refl refl refl refl)
    (of_three (IsDigit dir_rights 7 0 true false true) refl refl refl refl refl refl refl refl)
    (of_three (IsDigit dir_rights 7 0 true false false) refl refl refl refl refl refl refl refl)
    (of_three (IsDigit dir_rights 7 0 false true true) refl refl refl refl refl refl refl refl)
    (of_three (IsDigit dir_rights 7 0 false true false) refl refl refl refl refl refl refl refl)
    (of_three (IsDigit dir_rights 7 0 false false true) refl refl refl refl refl refl refl refl)
    (of_three (IsDigit dir_rights 7 0 false false false) refl refl refl refl refl refl refl refl)
    asked.read asked.write asked.execute dir.read dir.write dir.execute

-- a digit of rights is one, and so is what a mask makes of it
rights_lt : (r : Rights) → rights_bits r < 2 ^ 3
rights_lt r =
    of_three (λ a b c. rights_bits (of_bits a b c) < 2 ^ 3) (lit< tt) (lit< tt) (lit< tt) (lit< tt)
    (lit< tt) (lit< tt) (lit< tt) (lit< tt) r.read r.write r.execute

-- three digits
octal : ℕ → ℕ → ℕ → ℕ
octal a b c = behind (behind a b) c

permissions_octal : (p : Permissions)
    → permissions_bits p
    ≡ octal (rights_bits p.owner) (rights_bits p.group) (rights_bits p.others)
unfolding behind octal
permissions_octal p = omega arith

-- the formula, digit by digit
masked_octal : (mask others : ℕ) (dir asked : Permissions) → mask < 2 ^ 3 → others < 2 ^ 3
    → bit_and (permissions_bits asked)
    (bit_or (octal others others others)
    (bit_and (permissions_bits dir) (octal mask mask mask)))
    ≡ octal (digit mask others dir.owner asked.owner) (digit mask others dir.group asked.group)
    (digit mask others dir.others asked.others)
unfolding octal
masked_octal mask others dir asked small few =
    ap (λ x. bit_and (permissions_bits asked)
    (bit_or (octal others others others) (bit_and x (octal mask mask mask)))) (permissions_octal dir)
    ∙ ap (λ x. bit_and (permissions_bits asked) (bit_or (octal others others others) x)) kept
    ∙ ap (λ x. bit_and (permissions_bits asked) x) given
    ∙ ap (λ x. bit_and x (octal (part dir.owner) (part dir.group) (part dir.others)))
    (permissions_octal asked)
    ∙ and_octal (rights_bits asked.owner) (rights_bits asked.group) (rights_bits asked.others)
    (part dir.owner) (part dir.group) (part dir.others) (rights_lt asked.group)
    (rights_lt asked.others) (part_lt dir.group) (part_lt dir.others)
  where
    left : Rights → ℕ
    left r = bit_and (rights_bits r) mask

    left_lt : (r : Rights) → left r < 2 ^ 3
    left_lt r = omega (arith, and_le_r (rights_bits r) mask)

    part : Rights → ℕ
    part r = bit_or others (left r)

    part_lt : (r : Rights) → part r < 2 ^ 3
    part_lt r = or_lt 3 others (left r) few (left_lt r)

    and_octal : (a b c d e f : ℕ) → b < 2 ^ 3 → c < 2 ^ 3 → e < 2 ^ 3 → f < 2 ^ 3
        → bit_and (octal a b c) (octal d e f) ≡ octal (bit_and a d) (bit_and b e) (bit_and c f)
    and_octal a b c d e f b_lt c_lt e_lt f_lt =
        and_behind (behind a b) c (behind d e) f c_lt f_lt
        ∙ ap (λ x. behind x (bit_and c f)) (and_behind a b d e b_lt e_lt)

    kept : bit_and (octal (rights_bits dir.owner) (rights_bits dir.group) (rights_bits dir.others))
        (octal mask mask mask)
        ≡ octal (left dir.owner) (left dir.group) (left dir.others)
    kept =
        and_octal (rights_bits dir.owner) (rights_bits dir.group) (rights_bits dir.others) mask mask
        mask (rights_lt dir.group) (rights_lt dir.others) small small

    given : bit_or (octal others others others)
        (octal (left dir.owner) (left dir.group) (left dir.others))
        ≡ octal (part dir.owner) (part dir.group) (part dir.others)
    given =
        or_behind (behind others others) others (behind (left dir.owner) (left dir.group))
        (left dir.others) few (left_lt dir.others)
        ∙ ap (λ x. behind x (part dir.others))
        (or_behind others others (left dir.owner) (left dir.group) few (left_lt dir.group))

-- the same of each class
in_octal : (f : Rights → Rights → Rights) (mask others : ℕ) (dir asked : Permissions)
    → mask < 2 ^ 3 → others < 2 ^ 3
    → ((d a : Rights) → rights_bits (f d a) ≡ digit mask others d a)
    → permissions_bits (in_each f dir asked)
    ≡ bit_and (permissions_bits asked)
    (bit_or (octal others others others) (bit_and (permissions_bits dir) (octal mask mask mask)))
in_octal f mask others dir asked small few each =
    permissions_octal (in_each f dir asked)
    ∙ ap (λ x. octal x (rights_bits (f dir.group asked.group))
    (rights_bits (f dir.others asked.others))) (each dir.owner asked.owner)
    ∙ ap (λ x. octal (digit mask others dir.owner asked.owner) x
    (rights_bits (f dir.others asked.others))) (each dir.group asked.group)
    ∙ ap (λ x. octal (digit mask others dir.owner asked.owner)
    (digit mask others dir.group asked.group) x) (each dir.others asked.others)
    ∙ sym (masked_octal mask others dir asked small few)

-- the formula's mask for a file, or for a directory
abbrev mask_for : Bool → ℕ
mask_for dir = if dir then dir_mask else file_mask

-- the formula among the permissions
abbrev masked_low : (mask perm dir : ℕ) → ℕ
masked_low mask perm dir = bit_and perm (bit_or (dir_mask - mask) (bit_and dir mask))

permissions_masked : (dir : Permissions) (asked : Mode)
    → permissions_bits (inherited dir asked).permissions
    ≡ masked_low (mask_for (is_dir asked)) (permissions_bits asked.permissions)
    (permissions_bits dir)
unfolding octal behind
permissions_masked dir asked = go (is_dir asked) refl
  where
    go : (b : Bool) → is_dir asked ≡ b
        → permissions_bits (inherited dir asked).permissions
        ≡ masked_low (mask_for (is_dir asked)) (permissions_bits asked.permissions)
        (permissions_bits dir)
    go true e =
        rw e (in_octal dir_rights 7 0 dir asked.permissions (lit< tt) (lit< tt) dir_digit)
    go false e =
        rw e (in_octal file_rights 6 1 dir asked.permissions (lit< tt) (lit< tt) file_digit)

permissions_lt : (p : Permissions) → permissions_bits p < 2 ^ 9
permissions_lt p =
    let a = rights_lt p.owner in
    let b = rights_lt p.group in
    let c = rights_lt p.others in
    omega arith

-- the formula of numbers of which the low nine bits are permissions: the mask changes no other
masked_high : (mask q p r d : ℕ) → mask < 2 ^ 9 → p < 2 ^ 9 → d < 2 ^ 9 → q < 2 ^ 23
    → masked mask (q * 2 ^ 9 + p) (r * 2 ^ 9 + d) ≡ q * 2 ^ 9 + masked_low mask p d
masked_high mask q p r d small perm dir few =
    ap (λ x. bit_and (q * 2 ^ 9 + p) (bit_or (2 ^ 32 - 1 - mask) x)) of_dir
    ∙ ap (λ x. bit_and (q * 2 ^ 9 + p) (bit_or x (bit_and d mask))) ones
    ∙ ap (λ x. bit_and (q * 2 ^ 9 + p) x) either
    ∙ and_block 9 q (2 ^ 23 - 1) p (bit_or (dir_mask - mask) (bit_and d mask)) perm
    (or_lt 9 (dir_mask - mask) (bit_and d mask) (omega arith) within)
    ∙ ap (λ x. x * 2 ^ 9 + masked_low mask p d) (and_mask q 23 ∙ mod-eq_of_lt few)
  where
    within : bit_and d mask < 2 ^ 9
    within = omega (arith, and_le_r d mask)

    of_dir : bit_and (r * 2 ^ 9 + d) mask ≡ bit_and d mask
    of_dir =
        let none = and_le_r r 0 in
        let parts : bit_and (r * 2 ^ 9 + d) (0 * 2 ^ 9 + mask) ≡ bit_and r 0 * 2 ^ 9 + bit_and d mask =
        and_block 9 r 0 d mask dir small in
        ap (λ x. bit_and (r * 2 ^ 9 + d) x) (omega arith) ∙ parts ∙ omega arith

    ones : 2 ^ 32 - 1 - mask ≡ (2 ^ 23 - 1) * 2 ^ 9 + (dir_mask - mask)
    ones = omega arith

    either : bit_or ((2 ^ 23 - 1) * 2 ^ 9 + (dir_mask - mask)) (bit_and d mask)
        ≡ (2 ^ 23 - 1) * 2 ^ 9 + bit_or (dir_mask - mask) (bit_and d mask)
    either =
        let whole : bit_and d mask ≡ 0 * 2 ^ 9 + bit_and d mask = omega arith in
        ap (λ x. bit_or ((2 ^ 23 - 1) * 2 ^ 9 + (dir_mask - mask)) x) whole
        ∙ or_block 9 (2 ^ 23 - 1) 0 (dir_mask - mask) (bit_and d mask) (omega arith) within

-- a kind has its bits below the number of 32 bits
kind_lt : (k : Kind) → kind_bits k < 2 ^ 32
kind_lt Directory = lit< tt
kind_lt (File f) =
    of_three (λ a e t. flags_bits (record { append_only = a; exclusive = e; temporary = t }) < 2 ^ 32)
    (lit< tt) (lit< tt) (lit< tt) (lit< tt) (lit< tt) (lit< tt) (lit< tt) (lit< tt) f.append_only
    f.exclusive f.temporary

-- and above the permissions
kind_high : (m : Mode) → kind_bits m.kind ≡ mode_bits m / 2 ^ 9 * 2 ^ 9
kind_high m = let above = kind_bits-mode_bits m (mode_bits m) refl in omega arith

mode_high : (m : Mode)
    → mode_bits m ≡ mode_bits m / 2 ^ 9 * 2 ^ 9 + permissions_bits m.permissions
mode_high m = ap (λ k. k + permissions_bits m.permissions) (kind_high m)

pub new_mode_is_masked : NewModeIsMasked
new_mode_is_masked dir asked =
    let q : ℕ = mode_bits asked / 2 ^ 9 in
    let r : ℕ = mode_bits dir / 2 ^ 9 in
    let p : ℕ = permissions_bits asked.permissions in
    let d : ℕ = permissions_bits dir.permissions in
    let mask : ℕ = mask_for (is_dir asked) in
    let few : q < 2 ^ 23 = (let below = kind_lt asked.kind in
    let high = kind_high asked in
    omega arith) in
    ap (λ x. kind_bits asked.kind + x) (permissions_masked dir.permissions asked)
    ∙ ap (λ x. x + masked_low mask p d) (kind_high asked)
    ∙ sym (masked_high mask q p r d (mask_lt (is_dir asked)) (permissions_lt asked.permissions)
    (permissions_lt dir.permissions) few)
    ∙ ap (λ x. masked mask x (r * 2 ^ 9 + d)) (sym (mode_high asked))
    ∙ ap (λ x. masked mask (mode_bits asked) x) (sym (mode_high dir))
  where
    mask_lt : (b : Bool) → mask_for b < 2 ^ 9
    mask_lt true = lit< tt
    mask_lt false = lit< tt

-- three bits are those of the rights that they give
rights_of-bits : (b : ℕ) → b < 2 ^ 3 → rights_bits (rights_of b) ≡ b
rights_of-bits b few = grind (arith, nat_tests, few)

-- nine bits are those of the permissions that they give
permissions_of-bits : (b : ℕ) → b < 2 ^ 9 → permissions_bits (permissions_of b) ≡ b
permissions_of-bits b few =
    let owner = rights_of-bits (b / 64) (omega arith) in
    let group = rights_of-bits (b / 8 % 8) (omega arith) in
    let others = rights_of-bits (b % 8) (omega arith) in
    omega arith

-- the number of a mode is the one that it was read from
pub mode_of-bits : (perm : ℕ) (m : Mode) → mode_of perm ≡ Some m → mode_bits m ≡ perm
mode_of-bits perm m is = go (kind_bits (kind_among high) == high) refl
  where
    high : ℕ
    high = perm - perm % permissions_end

    go : (b : Bool) → (kind_bits (kind_among high) == high) ≡ b → mode_bits m ≡ perm
    go false e = let no : None ≡ Some m = rw e at is in absurd (cc)
    go true e =
        let low : ℕ = perm % permissions_end in
        let few : low < 2 ^ 9 = omega arith in
        let read : Some (record { kind = kind_among high; permissions = permissions_of low })
        ≡ Some m = rw e at is in
        let same : record { kind = kind_among high; permissions = permissions_of low } ≡ m = cc in
        let above : kind_bits (kind_among high) ≡ high = grind (arith, nat_tests, e) in
        let below = permissions_of-bits low few in
        let whole : kind_bits (kind_among high) + permissions_bits (permissions_of low) ≡ perm =
        omega arith in
        ap mode_bits (sym same) ∙ whole

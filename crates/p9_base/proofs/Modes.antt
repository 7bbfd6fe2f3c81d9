-- A mode's bits determine the mode.
use Rattle.std.proofs.Common.{◌≡◌, ℕ, ◌-◌, ◌%◌, ◌<◌, ◌^◌, Bool, true, false, arith}
use Rattle.std.proofs.Common.{refl, sym, ap, ◌∙◌, lit<}
use Rattle.p9_base.specs.declared.mode.Rights.{Rights}
use Rattle.p9_base.specs.declared.mode.Permissions.{Permissions}
use Rattle.p9_base.specs.declared.mode.FileFlags.{FileFlags}
use Rattle.p9_base.specs.declared.mode.Kind.{Kind}
use Rattle.p9_base.specs.declared.mode.Kind.TheVariants.{Directory, File}
use Rattle.p9_base.specs.declared.mode.Mode.{Mode}
use Rattle.p9_base.specs.Mode.{rights_bits, permissions_bits, flags_bits, flags_among, kind_bits}
use Rattle.p9_base.specs.Mode.{mode_bits, rights_of}

-- what holds of three bits in each of their eight cases
of_three : (P : Bool → Bool → Bool → Type 0)
    → P true true true → P true true false → P true false true → P true false false
    → P false true true → P false true false → P false false true → P false false false
    → (a b c : Bool) → P a b c
of_three P p q r s t u v w true true true = p
of_three P p q r s t u v w true true false = q
of_three P p q r s t u v w true false true = r
of_three P p q r s t u v w true false false = s
of_three P p q r s t u v w false true true = t
of_three P p q r s t u v w false true false = u
of_three P p q r s t u v w false false true = v
of_three P p q r s t u v w false false false = w

-- the rights to read, to write and to execute
abbrev of_bits : Bool → Bool → Bool → Rights
of_bits a b c = record { read = a; write = b; execute = c }

-- three bits give the rights back
rights_of-rights_bits : (r : Rights) → rights_of (rights_bits r) ≡ r
rights_of-rights_bits r =
    of_three (λ a b c. rights_of (rights_bits (of_bits a b c)) ≡ of_bits a b c) refl refl refl refl
    refl refl refl refl r.read r.write r.execute

-- rights have three bits
rights_bits_lt : (r : Rights) → rights_bits r < 8
rights_bits_lt r =
    of_three (λ a b c. rights_bits (of_bits a b c) < 8) (lit< tt) (lit< tt) (lit< tt) (lit< tt)
    (lit< tt) (lit< tt) (lit< tt) (lit< tt) r.read r.write r.execute

-- three bits determine the rights
rights_bits-injective : (r s : Rights) → rights_bits r ≡ rights_bits s → r ≡ s
rights_bits-injective r s e =
    sym (rights_of-rights_bits r) ∙ ap rights_of e ∙ rights_of-rights_bits s

-- the permissions of the owner, the group and the others
abbrev of_classes : Rights → Rights → Rights → Permissions
of_classes a b c = record { owner = a; group = b; others = c }

-- nine bits determine the permissions
permissions_bits-injective : (p q : Permissions) → permissions_bits p ≡ permissions_bits q → p ≡ q
permissions_bits-injective p q e =
    let a = rights_bits_lt p.owner in
    let b = rights_bits_lt p.group in
    let c = rights_bits_lt p.others in
    let a' = rights_bits_lt q.owner in
    let b' = rights_bits_lt q.group in
    let c' = rights_bits_lt q.others in
    let owner : rights_bits p.owner ≡ rights_bits q.owner = omega arith in
    let group : rights_bits p.group ≡ rights_bits q.group = omega arith in
    let others : rights_bits p.others ≡ rights_bits q.others = omega arith in
    ap (λ r. of_classes r p.group p.others) (rights_bits-injective p.owner q.owner owner)
    ∙ ap (λ r. of_classes q.owner r p.others) (rights_bits-injective p.group q.group group)
    ∙ ap (λ r. of_classes q.owner q.group r) (rights_bits-injective p.others q.others others)

-- permissions have nine bits
permissions_bits_lt : (p : Permissions) → permissions_bits p < 512
permissions_bits_lt p =
    let a = rights_bits_lt p.owner in
    let b = rights_bits_lt p.group in
    let c = rights_bits_lt p.others in
    omega arith

-- the flags append-only, exclusive use and temporary
abbrev of_flags : Bool → Bool → Bool → FileFlags
of_flags a e t = record { append_only = a; exclusive = e; temporary = t }

-- a file's bits give its flags back
flags_among-flags_bits : (f : FileFlags) → flags_among (flags_bits f) ≡ f
flags_among-flags_bits f =
    of_three (λ a e t. flags_among (flags_bits (of_flags a e t)) ≡ of_flags a e t) refl refl refl
    refl refl refl refl refl f.append_only f.exclusive f.temporary

-- bits that leave a directory's bit and the low nine clear
record IsFlagBits (n : ℕ) : Type 0 where
  below : n < 2 ^ 31
  whole : n % 512 ≡ 0

-- as those of a file's flags do
flag_bits : (f : FileFlags) → IsFlagBits (flags_bits f)
flag_bits f =
    of_three (λ a e t. IsFlagBits (flags_bits (of_flags a e t)))
    (record { below = lit< tt; whole = refl }) (record { below = lit< tt; whole = refl })
    (record { below = lit< tt; whole = refl }) (record { below = lit< tt; whole = refl })
    (record { below = lit< tt; whole = refl }) (record { below = lit< tt; whole = refl })
    (record { below = lit< tt; whole = refl }) (record { below = lit< tt; whole = refl })
    f.append_only f.exclusive f.temporary

-- a kind's bits leave the low nine clear
kind_bits_whole : (k : Kind) → kind_bits k % 512 ≡ 0
kind_bits_whole Directory = refl
kind_bits_whole (File f) = (flag_bits f).whole

-- a kind's bits determine the kind
kind_bits-injective : (j k : Kind) → kind_bits j ≡ kind_bits k → j ≡ k
kind_bits-injective Directory Directory e = refl
kind_bits-injective Directory (File g) e = let low = (flag_bits g).below in absurd (omega arith)
kind_bits-injective (File f) Directory e = let low = (flag_bits f).below in absurd (omega arith)
kind_bits-injective (File f) (File g) e =
    ap File (sym (flags_among-flags_bits f) ∙ ap flags_among e ∙ flags_among-flags_bits g)

-- the bits above the low nine are the kind's
pub kind_bits-mode_bits : (m : Mode) (bits : ℕ) → mode_bits m ≡ bits
    → kind_bits m.kind ≡ bits - bits % 512
kind_bits-mode_bits m bits e =
    let whole = kind_bits_whole m.kind in
    let low = permissions_bits_lt m.permissions in
    omega arith

-- the mode of a kind and permissions
abbrev of_parts : Kind → Permissions → Mode
of_parts k p = record { kind = k; permissions = p }

-- all bits determine the mode
pub mode_bits-injective : (m n : Mode) → mode_bits m ≡ mode_bits n → m ≡ n
mode_bits-injective m n e =
    let kinds : kind_bits m.kind ≡ kind_bits n.kind =
    kind_bits-mode_bits m _ e ∙ sym (kind_bits-mode_bits n _ refl) in
    let low : permissions_bits m.permissions ≡ permissions_bits n.permissions = omega arith in
    ap (λ k. of_parts k m.permissions) (kind_bits-injective m.kind n.kind kinds)
    ∙ ap (λ p. of_parts n.kind p) (permissions_bits-injective m.permissions n.permissions low)

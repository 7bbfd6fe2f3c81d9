-- A mode is read back from its bits.
use Rattle.std.proofs.Common.{◌≡◌, ℕ, zero, suc, ◌/◌, ◌%◌, ◌-◌, ◌<◌, ◌≤◌, ◌^◌, Bool, true, false, arith}
use Rattle.std.proofs.Common.{Option, None, sym, eqb}
use Rattle.std.proofs.lemmas.Bool.{eqb-true}
use Rattle.std.proofs.lemmas.Option.{cond_some, none-some, same_Some}
use Rattle.std.proofs.Common.{Some, refl, ap, ◌∙◌, lit<}
use Rattle.std.proofs.lemmas.Bool.{eq-eqb}
use Rattle.std.specs.Option.{option_map}
use Rattle.p9_base.specs.declared.mode.Rights.{Rights}
use Rattle.p9_base.specs.declared.mode.Permissions.{Permissions}
use Rattle.p9_base.specs.declared.mode.FileFlags.{FileFlags}
use Rattle.p9_base.specs.declared.mode.Kind.{Kind}
use Rattle.p9_base.specs.declared.mode.Kind.TheVariants.{Directory, File}
use Rattle.p9_base.specs.declared.mode.Mode.{Mode}
use Rattle.p9_base.specs.Mode.{rights_bits, rights_of, permissions_bits, permissions_of, flags_bits}
use Rattle.p9_base.specs.Mode.{kind_bits, kind_among, kind_of, mode_bits, mode_of}
use Rattle.p9_base.proofs.Modes.{kind_bits-mode_bits}

-- what holds of three bits in each of their eight cases
of_three : (P : Bool → Bool → Bool → Type 0)
    → P true true true → P true true false → P true false true → P true false false
    → P false true true → P false true false → P false false true → P false false false
    → (a b c : Bool) → P a b c
of_three P p q r s t u v w true true true = p
of_three P p q r s t u v w true true false = q
of_three P p q r s t u v w true false true = r
of_three P p q r s t u v w true false false = s
of_three P p q r s t u v w false true true = t
of_three P p q r s t u v w false true false = u
of_three P p q r s t u v w false false true = v
of_three P p q r s t u v w false false false = w

abbrev of_bits : Bool → Bool → Bool → Rights
of_bits a b c = record { read = a; write = b; execute = c }

rights_back : (r : Rights) → rights_of (rights_bits r) ≡ r
rights_back r =
    of_three (λ a b c. rights_of (rights_bits (of_bits a b c)) ≡ of_bits a b c) refl refl refl refl
    refl refl refl refl r.read r.write r.execute

rights_low : (r : Rights) → rights_bits r < 8
rights_low r =
    of_three (λ a b c. rights_bits (of_bits a b c) < 8) (lit< tt) (lit< tt) (lit< tt) (lit< tt)
    (lit< tt) (lit< tt) (lit< tt) (lit< tt) r.read r.write r.execute

abbrev of_flags : Bool → Bool → Bool → FileFlags
of_flags a e t = record { append_only = a; exclusive = e; temporary = t }

kind_back : (k : Kind) → kind_among (kind_bits k) ≡ k
kind_back Directory = refl
kind_back (File f) =
    of_three (λ a e t. kind_among (flags_bits (of_flags a e t)) ≡ File (of_flags a e t)) refl refl
    refl refl refl refl refl refl f.append_only f.exclusive f.temporary

kind_read : (k : Kind) (bits : ℕ) → kind_bits k ≡ bits → kind_of bits ≡ Some k
kind_read k bits e =
    rw (← e, kind_back k, eq-eqb (kind_bits k) (kind_bits k) refl) refl

permissions_back : (p : Permissions) (bits : ℕ) → bits ≡ permissions_bits p → permissions_of bits ≡ p
permissions_back p bits e =
    let a = rights_low p.owner in
    let b = rights_low p.group in
    let c = rights_low p.others in
    let owner : bits / 64 ≡ rights_bits p.owner = omega arith in
    let group : bits / 8 % 8 ≡ rights_bits p.group = omega arith in
    let others : bits % 8 ≡ rights_bits p.others = omega arith in
    rw (owner, group, others, rights_back p.owner, rights_back p.group, rights_back p.others) refl

permissions_low : (p : Permissions) → permissions_bits p < 512
permissions_low p =
    let a = rights_low p.owner in
    let b = rights_low p.group in
    let c = rights_low p.others in
    omega arith

flags_low : (f : FileFlags) → flags_bits f % 512 ≡ 0
flags_low f =
    of_three (λ a e t. flags_bits (of_flags a e t) % 512 ≡ 0) refl refl refl refl refl refl refl
    refl f.append_only f.exclusive f.temporary

kind_low : (k : Kind) → kind_bits k % 512 ≡ 0
kind_low Directory = refl
kind_low (File f) = flags_low f

abbrev of_parts : Kind → Permissions → Mode
of_parts k p = record { kind = k; permissions = p }

-- the mode of a mode's bits
pub mode_back : (m : Mode) → mode_of (mode_bits m) ≡ Some m
mode_back m =
    let whole = kind_low m.kind in
    let low = permissions_low m.permissions in
    let rest : mode_bits m % 512 ≡ permissions_bits m.permissions = omega arith in
    ap (option_map (λ kind. of_parts kind (permissions_of (mode_bits m % 512))))
    (kind_read m.kind _ (kind_bits-mode_bits m _ refl))
    ∙ ap (λ p. Some (of_parts m.kind p)) (permissions_back m.permissions _ rest)

flags_short : (f : FileFlags) → flags_bits f < 2 ^ 31
flags_short f =
    of_three (λ a e t. flags_bits (of_flags a e t) < 2 ^ 31) (lit< tt) (lit< tt) (lit< tt) (lit< tt)
    (lit< tt) (lit< tt) (lit< tt) (lit< tt) f.append_only f.exclusive f.temporary

kind_short : (k : Kind) → kind_bits k ≤ 2 ^ 31
kind_short Directory = omega arith
kind_short (File f) = let s = flags_short f in omega arith

-- which fit four bytes
pub mode_short : (m : Mode) → mode_bits m < 2 ^ 32
mode_short m =
    let k = kind_short m.kind in
    let low = permissions_low m.permissions in
    omega arith

-- the rights of three bits have these bits
rights_sound : (r : ℕ) → r < 8 → rights_bits (rights_of r) ≡ r
rights_sound zero lt = refl
rights_sound (suc zero) lt = refl
rights_sound (suc (suc zero)) lt = refl
rights_sound (suc (suc (suc zero))) lt = refl
rights_sound (suc (suc (suc (suc zero)))) lt = refl
rights_sound (suc (suc (suc (suc (suc zero))))) lt = refl
rights_sound (suc (suc (suc (suc (suc (suc zero)))))) lt = refl
rights_sound (suc (suc (suc (suc (suc (suc (suc zero))))))) lt = refl
rights_sound (suc (suc (suc (suc (suc (suc (suc (suc n)))))))) lt = absurd (omega arith)

-- the permissions of nine bits have these bits
permissions_sound : (p : ℕ) → p < 512 → permissions_bits (permissions_of p) ≡ p
permissions_sound p lt =
    let a = rights_sound (p / 64) (omega arith) in
    let b = rights_sound (p / 8 % 8) (omega arith) in
    let c = rights_sound (p % 8) (omega arith) in
    rw (a, b, c) (omega arith)

-- the kind of bits has these bits
kind_sound : (bits : ℕ) (k : Kind) → kind_of bits ≡ Some k → kind_bits k ≡ bits
kind_sound bits k e =
    let g = cond_some (eqb (kind_bits (kind_among bits)) bits) (kind_among bits) k e in
    ap kind_bits (sym g.1) ∙ eqb-true (kind_bits (kind_among bits)) bits g.0

-- the mode of a kind and of the low bits
abbrev with_low : ℕ → Kind → Mode
with_low bits k = of_parts k (permissions_of (bits % 512))

-- a mode that was made of a kind, if there is one
made_of_kind : (bits : ℕ) (m : Mode) (o : Option Kind) → kind_of (bits - bits % 512) ≡ o
    → option_map (with_low bits) o ≡ Some m → mode_bits m ≡ bits
made_of_kind bits m None is none = absurd (none-some m none)
made_of_kind bits m (Some k) is some =
    let high : kind_bits k ≡ bits - bits % 512 = kind_sound (bits - bits % 512) k is in
    let low : permissions_bits (permissions_of (bits % 512)) ≡ bits % 512 =
    permissions_sound (bits % 512) (omega arith) in
    ap mode_bits (sym (same_Some (with_low bits k) m some)) ∙ omega (arith, high, low)

-- the mode of bits has these bits
pub mode_sound : (bits : ℕ) (m : Mode) → mode_of bits ≡ Some m → mode_bits m ≡ bits
mode_sound bits m e = made_of_kind bits m (kind_of (bits - bits % 512)) refl e

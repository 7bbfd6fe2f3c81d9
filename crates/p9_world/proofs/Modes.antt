-- The word of a mode is read back as the mode.
use Rattle.std.proofs.Common.{◌≡◌, ℕ, ◌+◌, ◌-◌, ◌*◌, ◌/◌, ◌%◌, ◌<◌, Bool, true, false, []}
use Rattle.std.proofs.Common.{◌∷◌, ◌++◌, length, refl, ap, ◌∙◌, arith, lit<, Some, length-append}
use Rattle.std.proofs.lemmas.Bool.{and_from, le-leb, lt-ltb, ne_eqb, or_from}
use Rattle.std.proofs.lemmas.List.Elements.{All-append, All-from_recursion}
use Rattle.p9_base.specs.declared.mode.FileFlags.{FileFlags}
use Rattle.p9_base.specs.declared.mode.Mode.{Mode}
use Rattle.p9_base.specs.declared.mode.Kind.TheVariants.{File}
use Rattle.p9_base.specs.declared.mode.Permissions.{Permissions}
use Rattle.p9_base.specs.declared.mode.Rights.{Rights}
use Rattle.p9_base.specs.Mode.{permissions_bits, permissions_of, rights_bits, rights_of}
use Rattle.p9_world.specs.Mode.{begins_with, file_mode_in, is_octal_digit, permissions_in}
use Rattle.p9_world.specs.Text.{file_mode_word, letter, octal_digits, permissions_word}
use Rattle.p9_world.specs.Word.{ends_word}
use Rattle.p9_world.proofs.Words.{IsPlain, IsWord}

-- what holds of three bits in each of their eight cases
of_three : (P : Bool → Bool → Bool → Type 0)
    → P true true true → P true true false → P true false true → P true false false
    → P false true true → P false true false → P false false true → P false false false
    → (a b c : Bool) → P a b c
of_three P p q r s t u v w true true true = p
of_three P p q r s t u v w true true false = q
of_three P p q r s t u v w true false true = r
of_three P p q r s t u v w true false false = s
of_three P p q r s t u v w false true true = t
of_three P p q r s t u v w false true false = u
of_three P p q r s t u v w false false true = v
of_three P p q r s t u v w false false false = w

-- the rights to read, to write and to execute
abbrev of_bits : Bool → Bool → Bool → Rights
of_bits a b c = record { read = a; write = b; execute = c }

rights_of-rights_bits : (r : Rights) → rights_of (rights_bits r) ≡ r
rights_of-rights_bits r =
    of_three (λ a b c. rights_of (rights_bits (of_bits a b c)) ≡ of_bits a b c) refl refl refl refl
    refl refl refl refl r.read r.write r.execute

rights_bits_lt : (r : Rights) → rights_bits r < 8
rights_bits_lt r =
    of_three (λ a b c. rights_bits (of_bits a b c) < 8) (lit< tt) (lit< tt) (lit< tt) (lit< tt)
    (lit< tt) (lit< tt) (lit< tt) (lit< tt) r.read r.write r.execute

-- the permissions of the owner, the group and the others
abbrev of_classes : Rights → Rights → Rights → Permissions
of_classes a b c = record { owner = a; group = b; others = c }

permissions_bits_lt : (p : Permissions) → permissions_bits p < 512
permissions_bits_lt p =
    let a = rights_bits_lt p.owner in
    let b = rights_bits_lt p.group in
    let c = rights_bits_lt p.others in
    omega arith

-- nine bits give the permissions back
permissions_of-permissions_bits : (p : Permissions) → permissions_of (permissions_bits p) ≡ p
permissions_of-permissions_bits p =
    let a = rights_bits_lt p.owner in
    let b = rights_bits_lt p.group in
    let c = rights_bits_lt p.others in
    let owner : permissions_bits p / 64 ≡ rights_bits p.owner = omega arith in
    let group : permissions_bits p / 8 % 8 ≡ rights_bits p.group = omega arith in
    let others : permissions_bits p % 8 ≡ rights_bits p.others = omega arith in
    ap (λ n. of_classes (rights_of n) (rights_of (permissions_bits p / 8 % 8))
    (rights_of (permissions_bits p % 8))) owner
    ∙ ap (λ n. of_classes (rights_of (rights_bits p.owner)) (rights_of n)
    (rights_of (permissions_bits p % 8))) group
    ∙ ap (λ n. of_classes (rights_of (rights_bits p.owner)) (rights_of (rights_bits p.group))
    (rights_of n)) others
    ∙ ap (λ r. of_classes r (rights_of (rights_bits p.group)) (rights_of (rights_bits p.others)))
    (rights_of-rights_bits p.owner)
    ∙ ap (λ r. of_classes p.owner r (rights_of (rights_bits p.others)))
    (rights_of-rights_bits p.group)
    ∙ ap (λ r. of_classes p.owner p.group r) (rights_of-rights_bits p.others)

-- Digits.

octal : (d : ℕ) → d < 8 → is_octal_digit (48 + d) ≡ true
octal d l = and_from _ _ (le-leb 48 (48 + d) (omega arith)) (le-leb (48 + d) 55 (omega arith))

plain-digit : (d : ℕ) → d < 8 → ends_word (48 + d) ≡ false
plain-digit d l =
    or_from _ _
    (or_from _ _ (ne_eqb (48 + d) 32 (λ e. omega arith)) (ne_eqb (48 + d) 9 (λ e. omega arith)))
    (ne_eqb (48 + d) 10 (λ e. omega arith))

-- three digits of a number below 512
module _ (n : ℕ) (small : n < 512) where
  first : n / 64 < 8
  first = omega arith

  second : n / 8 % 8 < 8
  second = omega arith

  third : n % 8 < 8
  third = omega arith

  value : 64 * (48 + n / 64 - 48) + 8 * (48 + n / 8 % 8 - 48) + (48 + n % 8 - 48) ≡ n
  value = omega arith

  octal_digits-read : permissions_in (octal_digits n) ≡ Some (permissions_of n)
  octal_digits-read =
      rw (octal (n / 64) first, octal (n / 8 % 8) second, octal (n % 8) third)
      (ap (λ n. Some (permissions_of n)) value)

  octal_digits-plain : IsPlain (octal_digits n)
  octal_digits-plain =
      All-from_recursion (λ b. ends_word b ≡ false) (octal_digits n) (
        plain-digit (n / 64) first,
        (plain-digit (n / 8 % 8) second, (plain-digit (n % 8) third, tt)),
      )

  no_letter : (code : ℕ) → 55 < code → begins_with code (octal_digits n) ≡ false
  no_letter code l = ne_eqb (48 + n / 64) code (λ e. let d = first in omega arith)

-- permissions are read back
pub permissions_in-permissions_word : (p : Permissions)
    → permissions_in (permissions_word p) ≡ Some p
permissions_in-permissions_word p =
    octal_digits-read (permissions_bits p) (permissions_bits_lt p)
    ∙ ap Some (permissions_of-permissions_bits p)

pub IsWord-permissions : (p : Permissions) → IsWord (permissions_word p)
IsWord-permissions p =
    record { some = refl; plain = octal_digits-plain (permissions_bits p) (permissions_bits_lt p) }

-- A file's mode.

-- the flags append-only, exclusive use and temporary
abbrev of_flags : Bool → Bool → Bool → FileFlags
of_flags a e t = record { append_only = a; exclusive = e; temporary = t }

-- a file's mode
abbrev pub file_mode : FileFlags → Permissions → Mode
file_mode flags permissions = record { kind = File flags; permissions = permissions }

module _ (p : Permissions) where
  abbrev bits : ℕ
  bits = permissions_bits p

  no_a : begins_with 97 (permissions_word p) ≡ false
  no_a = no_letter bits (permissions_bits_lt p) 97 (lit< tt)

  no_l : begins_with 108 (permissions_word p) ≡ false
  no_l = no_letter bits (permissions_bits_lt p) 108 (lit< tt)

  no_t : begins_with 116 (permissions_word p) ≡ false
  no_t = no_letter bits (permissions_bits_lt p) 116 (lit< tt)

  read : permissions_in (permissions_word p) ≡ Some p
  read = permissions_in-permissions_word p

  -- each of the eight
  file_mode_in-cases : (a e t : Bool) →
      file_mode_in (file_mode_word (of_flags a e t) p) ≡ Some (file_mode (of_flags a e t) p)
  file_mode_in-cases true true true = rw read refl
  file_mode_in-cases true true false = rw (no_t, read) refl
  file_mode_in-cases true false true = rw read refl
  file_mode_in-cases true false false = rw (no_l, no_t, read) refl
  file_mode_in-cases false true true = rw read refl
  file_mode_in-cases false true false = rw (no_t, read) refl
  file_mode_in-cases false false true = rw read refl
  file_mode_in-cases false false false = rw (no_a, no_l, no_t, read) refl

pub file_mode_in-file_mode_word : (flags : FileFlags) (p : Permissions)
    → file_mode_in (file_mode_word flags p) ≡ Some (file_mode flags p)
file_mode_in-file_mode_word flags p =
    file_mode_in-cases p flags.append_only flags.exclusive flags.temporary

-- its word
letter-plain : (flag : Bool) (code : ℕ) → ends_word code ≡ false → IsPlain (letter flag code)
letter-plain true code plain = All-from_recursion (λ b. ends_word b ≡ false) (code ∷ []) (plain, tt)
letter-plain false code plain = All-from_recursion (λ b. ends_word b ≡ false) [] tt

pub IsWord-file_mode : (flags : FileFlags) (p : Permissions) → IsWord (file_mode_word flags p)
IsWord-file_mode flags p = record {
  some =
      let letters = letter flags.append_only 97 ++ letter flags.exclusive 108
      ++ letter flags.temporary 116 in
      lt-ltb 0 (length (letters ++ permissions_word p))
      (omega (arith, length-append letters (permissions_word p)));
  plain =
      All-append (λ b. ends_word b ≡ false)
      (letter flags.append_only 97 ++ letter flags.exclusive 108 ++ letter flags.temporary 116)
      (permissions_word p)
      (All-append (λ b. ends_word b ≡ false)
      (letter flags.append_only 97 ++ letter flags.exclusive 108) (letter flags.temporary 116)
      (All-append (λ b. ends_word b ≡ false)
      (letter flags.append_only 97) (letter flags.exclusive 108)
      (letter-plain flags.append_only 97 refl) (letter-plain flags.exclusive 108 refl))
      (letter-plain flags.temporary 116 refl))
      (octal_digits-plain (permissions_bits p) (permissions_bits_lt p));
}

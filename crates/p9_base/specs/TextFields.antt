-- The bytes of a text give its fields back.
use Rattle.std.specs.Prelude.{◌≡◌, ℕ, ◌≤◌, List, length, take}
use Rattle.std.proofs.Common.{refl}
use Rattle.p9_base.specs.declared.text.Text.TheInside.{Inside}
use Rattle.p9_base.specs.Text.{padded}
use Rattle.p9_base.specs.Padding.{length-take_padded}

-- the fields, from the bytes that are shown
abbrev pub fields_of : (n : ℕ) → List ℕ → Inside n
fields_of n xs = record { len = length xs; bytes = padded n xs }

-- these are the fields of the text
pub fields_back : (n : ℕ) (a : Inside n) → a.len ≤ n → a.bytes ≡ padded n (take a.len a.bytes)
    → fields_of n (take a.len a.bytes) ≡ a
fields_back n a le e = rw (← e, length-take_padded n a.len a.bytes le e) refl

-- The words of the laws: how a function that reads and a relation that says what is spelled agree.
use Rattle.std.specs.Prelude.{◌≡◌, ℕ, List, Option, Some}
use Rattle.p9_wire.specs.Frame.{IsBytes}

-- which bytes are which message with which tag
abbrev pub Spelling : Type 0 → Type 1
Spelling M = List ℕ → ℕ → M → Type 0

-- what is read of bytes has them as its spelling
abbrev pub ReadsSpellings : {M : Type 0} → (List ℕ → Option (ℕ × M)) → Spelling M → Type 0
ReadsSpellings {M} message_of Spells =
    (bytes : List ℕ) (tag : ℕ) (m : M) → IsBytes bytes
    → message_of bytes ≡ Some (tag, m) → Spells bytes tag m

-- each spelling is read
abbrev pub ReadsEachSpelling : {M : Type 0} → (List ℕ → Option (ℕ × M)) → Spelling M → Type 0
ReadsEachSpelling {M} message_of Spells =
    (bytes : List ℕ) (tag : ℕ) (m : M) → Spells bytes tag m → message_of bytes ≡ Some (tag, m)

-- a spelling has one tag and one message
abbrev pub HasOneMessage : {M : Type 0} → Spelling M → Type 0
HasOneMessage {M} Spells =
    (bytes : List ℕ) (tag other : ℕ) (m n : M) → Spells bytes tag m → Spells bytes other n
    → (tag ≡ other) × (m ≡ n)

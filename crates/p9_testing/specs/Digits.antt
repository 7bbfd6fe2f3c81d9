-- What is read as digits.
use Rattle.std.specs.Prelude.{ℕ, ◌==◌, Bool, not, List, filter}

-- the byte is a blank
abbrev pub is_blank : ℕ → Bool
is_blank byte = byte == 32

-- a text without its blanks
abbrev pub digits_of : List ℕ → List ℕ
digits_of text = filter (λ byte. not (is_blank byte)) text

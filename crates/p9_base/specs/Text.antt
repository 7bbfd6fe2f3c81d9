-- Texts, as every text of a message is.
use Rattle.std.specs.Prelude.{ℕ, ◌-◌, ◌==◌, ◌&&◌, Bool, not, List, ◌++◌, length, replicate}
use Rattle.std.specs.List.{list_any}
use Rattle.std.specs.Str.{is_utf8}

-- UTF-8 without NUL
abbrev pub is_text : List ℕ → Bool
is_text s = is_utf8 s && not (list_any (λ b. b == 0) s)

-- a list brought to a length by zeros after it
abbrev pub padded : ℕ → List ℕ → List ℕ
padded n xs = xs ++ replicate (n - length xs) 0

-- Kinds of bytes.
use Rattle.std.specs.Prelude.{ℕ, ◌==◌, ◌&&◌, ◌||◌, Bool, not, nat_lt, List, drop}
use Rattle.std.specs.Char.{is_digit}
use Rattle.std.specs.List.{prefix_len}
use Rattle.p9_words.specs.Form.{radix_of}
use Rattle.p9_words.specs.declared.class.Class.{Class}
use Rattle.p9_words.specs.declared.class.Class.TheVariants.{Blank, Filled, Digit, Bare, Unquoted}

-- a blank or a tab
abbrev pub is_blank : ℕ → Bool
is_blank b = b == 32 || b == 9

-- a byte of a bare word
abbrev pub is_bare : ℕ → Bool
is_bare b =
    nat_lt 32 b && nat_lt b 127 && not (b == 39) && not (b == 40) && not (b == 41)

-- a byte of this kind
abbrev pub is_in : Class → ℕ → Bool
is_in Blank b = is_blank b
is_in Filled b = not (is_blank b)
is_in (Digit base) b = is_digit b (radix_of base)
is_in Bare b = is_bare b
is_in Unquoted b = not (b == 39)

-- the text after the blanks at its front
unfoldable pub skip_blanks : List ℕ → List ℕ
skip_blanks text = drop (prefix_len is_blank text) text

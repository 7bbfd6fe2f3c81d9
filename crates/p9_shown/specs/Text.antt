-- Text as it is shown to people.
use Rattle.std.specs.Prelude.{ℕ, ◌==◌, ◌||◌, ◌&&◌, Bool, false, List, [], ◌∷◌, encode_utf8_all, nat_le, nat_lt, not}
use Rattle.std.specs.Prelude.{if◌then◌else◌}
use Rattle.std.specs.Char.Escape.{escape_unicode}
use Rattle.std.specs.List.{flat_map, list_all}
use Rattle.std.specs.Str.{chars}
use Rattle.ucd_category.specs.GeneralCategory.{general_category}
use Rattle.ucd_category.specs.GeneralCategoryGroup.{in_group}
use Rattle.ucd_category.specs.declared.GeneralCategoryGroup.TheVariants.{Other, Separator}

-- a character beyond ASCII is not seen: another blank, a control or format character, or one that
-- means nothing yet
abbrev pub is_unseen : ℕ → Bool
is_unseen c = in_group Other (general_category c) || in_group Separator (general_category c)

-- a character is shown as it is
abbrev pub is_plain : ℕ → Bool
is_plain c =
    if c == 92 then false
    else if nat_lt c 128 then nat_le 32 c && nat_le c 126
    else not (is_unseen c)

-- each character of a text is seen
abbrev pub is_visible : List ℕ → Bool
is_visible text = list_all (λ c. c == 92 || is_plain c) (chars text)

-- a character as it is shown: a backslash and a letter for NUL, tab, newline, carriage return and
-- backslash, and its code for another that is not shown as it is
abbrev pub shown_char : ℕ → List ℕ
shown_char c =
    if c == 0 then 92 ∷ 48 ∷ []
    else if c == 9 then 92 ∷ 116 ∷ []
    else if c == 10 then 92 ∷ 110 ∷ []
    else if c == 13 then 92 ∷ 114 ∷ []
    else if c == 92 then 92 ∷ 92 ∷ []
    else if is_plain c then c ∷ []
    else escape_unicode c

-- the bytes of a text as it is shown
abbrev pub shown_text : List ℕ → List ℕ
shown_text text = encode_utf8_all (flat_map shown_char (chars text))

-- Text in SVG, by its characters.
use Rattle.std.specs.Prelude.{◌≢◌, ◌&&◌, ◌||◌, ◌==◌, ℕ, zero, suc, Bool, List, [], ◌∷◌, codes, length}
use Rattle.std.specs.Prelude.{encode_utf8_all, nat_le, drop, if◌then◌else◌}
use Rattle.std.specs.List.{flat_map, starts_with}
use Rattle.std.specs.Str.{chars}
use Rattle.std.specs.Prelude.{nat_eq}

-- a control character, or one that SVG may not have
abbrev pub is_control : ℕ → Bool
is_control c =
    nat_le c 31 || (nat_le 127 c && nat_le c 159) || c == 0xfffe || c == 0xffff

-- the character that stands for one: for a control character the replacement character
abbrev pub shown : ℕ → ℕ
shown c = if is_control c then 0xfffd else c

-- a character as it is written
abbrev pub escaped_char : ℕ → List ℕ
escaped_char c =
    if c == 38 then codes "&amp;"
    else if c == 60 then codes "&lt;"
    else if c == 62 then codes "&gt;"
    else if c == 34 then codes "&quot;"
    else shown c ∷ []

-- the bytes of a text as it is written
abbrev pub escaped_text : List ℕ → List ℕ
escaped_text text = encode_utf8_all (flat_map escaped_char (chars text))

-- no character that begins or ends what is no text: `<`, `>` and the quote
pub record IsHarmless (c : ℕ) : Type 0 where
  pub not_less : c ≢ 60
  pub not_greater : c ≢ 62
  pub not_quote : c ≢ 34

-- what a reader of SVG takes an entity for, by what follows its `&`, and what follows the entity
abbrev pub entity : List ℕ → ℕ
entity cs =
    if starts_with nat_eq cs (codes "lt;") then 60
    else if starts_with nat_eq cs (codes "gt;") then 62
    else if starts_with nat_eq cs (codes "quot;") then 34
    else 38

-- how many characters an entity has after its `&`
abbrev pub entity_len : List ℕ → ℕ
entity_len cs =
    if starts_with nat_eq cs (codes "lt;") || starts_with nat_eq cs (codes "gt;") then 3
    else if starts_with nat_eq cs (codes "quot;") then 5
    else 4

-- the text that a reader of SVG sees, of at most so many characters
abbrev pub read : ℕ → List ℕ → List ℕ
read zero cs = []
read (suc n) [] = []
read (suc n) (c ∷ cs) =
    if c == 38 then entity cs ∷ read n (drop (entity_len cs) cs) else c ∷ read n cs

-- the text that a reader of SVG sees
abbrev pub unescaped : List ℕ → List ℕ
unescaped cs = read (length cs) cs

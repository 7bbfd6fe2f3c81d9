-- Variables in the words of a line, as namespace(6).
use Rattle.std.specs.Prelude.{ℕ, ◌==◌, List, [], ◌∷◌, ◌++◌, drop, find}
use Rattle.std.specs.Option.{option_map_or}
use Rattle.std.specs.List.{before_first, flat_map, position_or_len, slice_split}
use Rattle.std.specs.Str.{bytes_eq}
use Rattle.p9_base.specs.Name.{is_slash}
use Rattle.p9_base.specs.Variable.{Variable}
use Rattle.p9_nsline.specs.Flags.{Word}

-- the byte '$'
abbrev pub dollar : ℕ
dollar = 36

-- the value of the first variable of the name; nothing where there is none
abbrev pub value_of : List Variable → Word → Word
value_of vars name = option_map_or (λ var. var.1) (find (λ var. bytes_eq var.0 name) vars) []

-- the rest of a word from its first slash on
abbrev pub from_slash : Word → Word
from_slash piece = drop (position_or_len is_slash piece) piece

-- what is between a dollar and the next begins with a variable's name, which ends at a slash
abbrev pub with_value : List Variable → Word → Word
with_value vars piece = value_of vars (before_first is_slash piece) ++ from_slash piece

-- a word from its pieces, of which all but the first was after a dollar
abbrev pub joined_pieces : List Variable → List Word → Word
joined_pieces vars [] = []
joined_pieces vars (first ∷ pieces) = first ++ flat_map (with_value vars) pieces

-- the word with the variables' values in the place of their names
abbrev pub expanded : List Variable → Word → Word
expanded vars word = joined_pieces vars (slice_split (λ b. b == dollar) word)

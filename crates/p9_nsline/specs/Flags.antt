-- The flags of a mount or a bind, as bind(1).
use Rattle.std.specs.Prelude.{ℕ, ◌==◌, ◌&&◌, ◌||◌, Bool, not, nat_lt, List, length, drop}
use Rattle.std.specs.Prelude.{slice_index, Option, Some, None, if◌then◌else◌}
use Rattle.std.specs.List.{list_all, list_any}
use Rattle.p9_table.specs.declared.row.Order.{Order}
use Rattle.p9_table.specs.declared.row.Order.TheVariants.{Replace, Before, After}
use Rattle.p9_nsline.specs.declared.flags.Flags.{Flags}

-- the bytes of a word of a line
abbrev pub Word : Type 0
Word = List ℕ

-- a flag begins with '-'
abbrev pub is_flag : Word → Bool
is_flag word = slice_index word 0 == 45

-- one of "abcC"
abbrev pub is_flag_letter : ℕ → Bool
is_flag_letter b = ((b == 97 || b == 98) || b == 99) || b == 67

-- after its '-' there are letters, and nothing else
abbrev pub is_good : Word → Bool
is_good flag = nat_lt 0 (length (drop 1 flag)) && list_all is_flag_letter (drop 1 flag)

-- the flag has the letter
abbrev pub contains : ℕ → Word → Bool
contains letter flag = list_any (λ b. b == letter) flag

-- one of the flags has the letter
abbrev pub has : ℕ → List Word → Bool
has letter flags = list_any (contains letter) flags

-- 'b' is before, 'a' is after, neither of them replaces
abbrev pub order_of : List Word → Order
order_of flags = if has 98 flags then Before else if has 97 flags then After else Replace

-- what the flags say, if they are good: 'a' and 'b' don't go together
abbrev pub flags_of : List Word → Option Flags
flags_of flags =
    if not (list_all is_good flags) || (has 98 flags && has 97 flags) then None
    else Some (record { order = order_of flags; create = has 99 flags })

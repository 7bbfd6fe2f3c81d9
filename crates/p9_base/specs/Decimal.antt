-- Decimal numbers.
use Rattle.std.specs.Prelude.{ℕ, ◌==◌, ◌&&◌, Bool, not, nat_lt, List, length, Option, Some, None}
use Rattle.std.specs.Prelude.{if◌then◌else◌}
use Rattle.std.specs.Char.{is_ascii_digit}
use Rattle.std.specs.List.{list_all}
use Rattle.std.specs.Str.Parse.{digits_value}

-- one digit or more, and nothing else
abbrev pub is_decimal : List ℕ → Bool
is_decimal word = not (length word == 0) && list_all is_ascii_digit word

-- the number that the digits of a word write, where it is below the limit
unfoldable pub number_of : ℕ → List ℕ → Option ℕ
number_of limit word =
    let value = digits_value 10 word in
    if is_decimal word && nat_lt value limit then Some value else None

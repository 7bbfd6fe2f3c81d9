-- What a user or a group may be called.
use Rattle.std.specs.Prelude.{ℕ, ◌&&◌, Bool, nat_le, List, length}
use Rattle.std.specs.List.{list_any}
use Rattle.std.specs.Str.{bytes_eq}
use Rattle.p9_base.specs.Text.{is_text}

-- the most bytes of a user's or a group's name
abbrev pub user_max : ℕ
user_max = 63

-- 1 to 63 bytes of text
abbrev pub is_user : List ℕ → Bool
is_user s = nat_le 1 (length s) && nat_le (length s) user_max && is_text s

-- the user is among those that are listed
abbrev pub is_listed_user : List (List ℕ) → List ℕ → Bool
is_listed_user users user = list_any (λ u. bytes_eq u user) users

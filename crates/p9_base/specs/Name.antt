-- What a file may be called.
use Rattle.std.specs.Prelude.{ℕ, ◌==◌, ◌&&◌, ◌||◌, Bool, not, nat_le, List, length, codes}
use Rattle.std.specs.List.{list_any}
use Rattle.std.specs.Str.{bytes_eq}
use Rattle.p9_base.specs.Text.{is_text}

-- the byte '/', which is between the names of a path
abbrev pub slash : ℕ
slash = 47

-- whether a byte is that
abbrev pub is_slash : ℕ → Bool
is_slash b = b == slash

-- the most bytes of a file's name
abbrev pub name_max : ℕ
name_max = 255

-- 1 to 255 bytes of text, without '/', and neither "." nor ".."
abbrev pub is_name : List ℕ → Bool
is_name s =
    nat_le 1 (length s) && nat_le (length s) name_max && is_text s && not (list_any is_slash s)
    && not (bytes_eq s (codes ".") || bytes_eq s (codes ".."))

-- Names of files.
use Rattle.std.specs.Prelude.{ℕ, ◌==◌, ◌&&◌, ◌||◌, Bool, List, codes, not}
use Rattle.std.specs.List.{list_any}
use Rattle.std.specs.Str.{bytes_eq}

-- a name of an entry of a directory, which leads nowhere else: no empty text, neither `.` nor `..`, and
-- without a slash or a NUL
abbrev pub is_inside : List ℕ → Bool
is_inside name =
    not (bytes_eq name (codes "") || bytes_eq name (codes ".") || bytes_eq name (codes ".."))
    && not (list_any (λ b. b == 47) name) && not (list_any (λ b. b == 0) name)

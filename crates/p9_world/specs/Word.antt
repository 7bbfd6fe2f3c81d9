-- The words of a line.
use Rattle.std.specs.Prelude.{ℕ, ◌==◌, ◌&&◌, ◌||◌, Bool, not, List}
use Rattle.std.specs.List.{list_any}
use Rattle.p9_base.specs.Line.{is_blank}
use Rattle.p9_base.specs.Name.{is_name}
use Rattle.p9_base.specs.User.{is_user}
use Rattle.p9_world.specs.Server.{is_server_name}

-- a blank, a tab or a newline
abbrev pub ends_word : ℕ → Bool
ends_word b = is_blank b || b == 10

-- without these
abbrev pub is_plain : List ℕ → Bool
is_plain text = not (list_any ends_word text)

-- the name of a file that is one word
abbrev pub is_plain_name : List ℕ → Bool
is_plain_name text = is_name text && is_plain text

-- the name of a user or a group that is one word
abbrev pub is_plain_user : List ℕ → Bool
is_plain_user text = is_user text && is_plain text

-- the name of a server that is one word
abbrev pub is_plain_server : List ℕ → Bool
is_plain_server text = is_user text && is_server_name text && is_plain text

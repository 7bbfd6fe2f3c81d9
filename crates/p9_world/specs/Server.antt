-- A line 'server NAME'.
use Rattle.std.specs.Prelude.{ℕ, ◌==◌, ◌&&◌, ◌||◌, Bool, not, nat_le, nat_lt, List, [], ◌∷◌}
use Rattle.std.specs.Prelude.{◌++◌, Option, Result, Ok, is_some, length, position}
use Rattle.std.specs.List.{list_any}
use Rattle.std.specs.Str.{bytes_eq}
use Rattle.p9_base.specs.Name.{is_slash}
use Rattle.p9_base.specs.NodeRef.{servers_max}
use Rattle.p9_base.specs.Results.{need}
use Rattle.p9_tree.specs.Server.{rooted}
use Rattle.p9_world.specs.declared.error.LineFault.{LineFault}
use Rattle.p9_world.specs.declared.error.LineFault.TheVariants.{BadName, Duplicate, TooMany}
use Rattle.p9_world.specs.World.{World}

-- '/', '#', '$' or NUL
abbrev pub is_reserved : ℕ → Bool
is_reserved b = is_slash b || b == 35 || b == 36 || b == 0

-- the most bytes of a server's name
abbrev pub server_name_max : ℕ
server_name_max = 63

-- 1 byte or more up to that, none of them reserved
abbrev pub is_server_name : List ℕ → Bool
is_server_name name =
    nat_le 1 (length name) && nat_le (length name) server_name_max
    && not (list_any is_reserved name)

-- the number of the server of this name
abbrev pub server_number : List ℕ → List (List ℕ) → Option ℕ
server_number name servers = position (λ other. bytes_eq other name) servers

-- a server of this name, with a root alone, joins after the others
abbrev pub with_server : List ℕ → World → World
with_server name w = record w { forest = w.forest ++ rooted ∷ []; servers = w.servers ++ name ∷ [] }

-- what comes of a world by 'server NAME'
abbrev pub server_line : List ℕ → World → Result World LineFault
server_line name w =
    need (is_server_name name) BadName (
    need (not (is_some (server_number name w.servers))) Duplicate (
    need (nat_lt (length w.servers) servers_max) TooMany (
    Ok (with_server name w))))

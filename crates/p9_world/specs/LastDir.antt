-- The directory of the line before.
use Rattle.std.specs.Prelude.{◌≡◌, ℕ, List, Option, Some}
use Rattle.std.specs.Option.{option_and_then}
use Rattle.p9_clean.specs.Path.{Component}
use Rattle.p9_tree.specs.Server.{Server}
use Rattle.p9_world.specs.declared.last_dir.LastDir.{LastDir}
use Rattle.p9_world.specs.Path.{dir_number, number_from}

-- its names lead to its number, from the root on
abbrev pub IsWhereNamesLead : {Z : Type 0} → LastDir Z → Server → Type 0
IsWhereNamesLead dir server =
    number_from 0 dir.names.items server.nodes ≡ Some dir.number

-- the directory that the names lead to, from this number on
abbrev pub dir_from : ℕ → List Component → Server → Option ℕ
dir_from number names server =
    option_and_then (dir_number server.nodes) (number_from number names server.nodes)

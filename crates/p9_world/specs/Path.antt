-- Paths from a server's root, and the directories that they lead to.
use Rattle.std.specs.Prelude.{ℕ, List, [], ◌∷◌, Option, Some, None, if◌then◌else◌}
use Rattle.std.specs.List.{list_all}
use Rattle.std.specs.Option.{option_and_then, option_map_or}
use Rattle.p9_base.specs.Name.{is_name}
use Rattle.p9_clean.specs.Path.{Component, cleaned_elements, is_rooted}
use Rattle.p9_tree.specs.Node.{Node}
use Rattle.p9_tree.specs.Server.{Server, child_of, is_dir_at}

-- the elements, if they may all name files
abbrev pub names_among : List Component → Option (List Component)
names_among elements = if list_all is_name elements then Some elements else None

-- the names along a path once it is cleaned, if it begins with a slash
abbrev pub names_of : List ℕ → Option (List Component)
names_of path = if is_rooted path then names_among (cleaned_elements path) else None

-- the last of some names, and those before it
abbrev pub last_and_rest : List Component → Option (Component × List Component)
last_and_rest [] = None
last_and_rest (name ∷ names) =
    Some (option_map_or (λ place. (place.0, name ∷ place.1)) (last_and_rest names) (name, []))

-- the number that the names lead to, from this one on
abbrev pub number_from : ℕ → List Component → List Node → Option ℕ
number_from number [] nodes = Some number
number_from number (name ∷ names) nodes =
    option_and_then (λ child. number_from child.number names nodes) (child_of number name nodes)

-- the number, if a directory has it
abbrev pub dir_number : List Node → ℕ → Option ℕ
dir_number nodes number = if is_dir_at number nodes then Some number else None

-- the directory that the names lead to, from the root on
abbrev pub dir_of : List Component → Server → Option ℕ
dir_of names server = option_and_then (dir_number server.nodes) (number_from 0 names server.nodes)

-- Who passes a place: a directory is passed by those who may search it or rule it.
use Rattle.std.specs.Prelude.{ℕ, ◌==◌, ◌&&◌, Bool, true, false, List, [], ◌∷◌, ◌++◌, Option, Some, None}
use Rattle.std.specs.Prelude.{codes, filter, length, if◌then◌else◌}
use Rattle.std.specs.List.{flat_map, list_any}
use Rattle.std.specs.Option.{option_map_or}
use Rattle.p9_tree.specs.Node.{Node, is_dir}
use Rattle.p9_tree.specs.Server.{Server}
use Rattle.p9_tree.specs.Forest.{node_of}
use Rattle.p9_shown.specs.Text.{shown_text}
use Rattle.p9_table.specs.declared.row.Member.{Member}
use Rattle.p9_space.specs.Rights.{Who}
use Rattle.p9_space.specs.Walk.{is_searched}
use Rattle.p9_cert.specs.Listed.{may_pass}
use Rattle.p9_world.specs.World.{World}

-- the user may search the directory or rules it; without a user everybody may
abbrev pub may_pass_by : Option Who → Node → Bool
may_pass_by who n = option_map_or (may_pass n) who true

-- the member is a directory that exists and that the user may pass
abbrev pub is_passed : List Server → Option Who → Member → Bool
is_passed forest who m =
    option_map_or (λ n. is_dir n && may_pass_by who n) (node_of m.node forest) false

-- the member is a directory that exists and that everybody may search
abbrev pub is_public : List Server → Member → Bool
is_public forest m =
    option_map_or (λ n. is_dir n && n.mode.permissions.others.execute) (node_of m.node forest) false

-- a listed user may pass the member
abbrev pub is_passed_by : World → (user : List ℕ) → Member → Bool
is_passed_by world user =
    is_passed world.forest (Some (record { user = user; groups = world.groups }))

-- the listed users who may pass one of the members
abbrev pub passers : World → List Member → List (List ℕ)
passers world ms = filter (λ user. list_any (is_passed_by world user) ms) world.users

-- users by name
abbrev pub users_text : (first : List ℕ) (others : List (List ℕ)) → List ℕ
users_text first others =
    codes " passed by " ++ shown_text first ++ flat_map (λ u. codes ", " ++ shown_text u) others

-- the users, of whom there are so many in all
abbrev pub passers_text : ℕ → List (List ℕ) → List ℕ
passers_text count [] = codes " (not passable)"
passers_text count (user ∷ users) =
    if length (user ∷ users) == count then codes " passed by everybody"
    else users_text user users

-- what a user may do with a place whose members these are: nothing is said where he may search one;
-- where he rules one, he may come to search it
abbrev pub user_text : List Server → Who → List Member → List ℕ
user_text forest who ms =
    if list_any (is_searched forest (Some who)) ms then []
    else if list_any (is_passed forest (Some who)) ms then codes " (ruled, not searched)"
    else codes " (not passable)"

-- by whom a place is passed; for a user, whether he may search it
abbrev pub passing_text : World → Option Who → List Member → List ℕ
passing_text world None ms = passers_text (length world.users) (passers world ms)
passing_text world (Some who) ms = user_text world.forest who ms

-- What accounts say.
use Rattle.std.specs.Prelude.{ℕ, ◌==◌, ◌++◌, Bool, List, [], Option, find}
use Rattle.std.specs.List.{list_any}
use Rattle.std.specs.Option.{option_map, option_map_or}
use Rattle.std.specs.Str.{bytes_eq}
use Rattle.p9_pack.specs.Account.{AccountRows, GroupRow, group_rows, user_rows, users_of}
use Rattle.p9_pack.specs.Once.{each_once}

-- the accounts of the two texts
abbrev pub accounts_of : (passwd group : List ℕ) → AccountRows
accounts_of passwd group = record { users = user_rows passwd; groups = group_rows group }

-- the name of the first user of a number
abbrev pub user_name : ℕ → AccountRows → Option (List ℕ)
user_name uid accounts = option_map (λ user. user.name) (find (λ user. user.uid == uid) accounts.users)

-- the name of the first group of a number
abbrev pub group_name : ℕ → AccountRows → Option (List ℕ)
group_name gid accounts =
    option_map (λ group. group.name) (find (λ group. group.gid == gid) accounts.groups)

-- the number of the first user of a name
abbrev pub user_number : List ℕ → AccountRows → Option ℕ
user_number name accounts =
    option_map (λ user. user.uid) (find (λ user. bytes_eq user.name name) accounts.users)

-- the number of the first group of a name
abbrev pub group_number : List ℕ → AccountRows → Option ℕ
group_number name accounts =
    option_map (λ group. group.gid) (find (λ group. bytes_eq group.name name) accounts.groups)

-- whether a user has the name
abbrev pub has_user : List ℕ → AccountRows → Bool
has_user name accounts = list_any (λ user. bytes_eq user.name name) accounts.users

-- the members of a group: those that are listed, and the users whose own group it is
abbrev pub group_members : AccountRows → GroupRow → List (List ℕ)
group_members accounts group = each_once (group.members ++ users_of group.gid accounts.users)

-- those of the first group of a name
abbrev pub members_of : List ℕ → AccountRows → List (List ℕ)
members_of name accounts =
    option_map_or (group_members accounts)
    (find (λ group. bytes_eq group.name name) accounts.groups) []

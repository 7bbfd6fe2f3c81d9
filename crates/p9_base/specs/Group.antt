-- Groups, as users(6): who leads a group, and who its members are.
use Rattle.std.specs.Prelude.{ℕ, Bool, List, Option}
use Rattle.std.specs.List.{list_all, list_any}
use Rattle.std.specs.Map.{lookup}
use Rattle.std.specs.Option.{option_map_or}
use Rattle.std.specs.Str.{bytes_eq}
use Rattle.p9_base.specs.User.{is_user}
use Rattle.indexmap.specs.IndexMap.{insert_entry}

-- who leads a group, and who its members are; the leader is a member only where named among them
pub record Group : Type 0 where
  pub leader : List ℕ
  pub members : List (List ℕ)

-- a group by its name
abbrev pub GroupRow : Type 0
GroupRow = List ℕ × Group

-- the group of the name, where one is listed
abbrev pub group_of : List ℕ → List GroupRow → Option Group
group_of name groups = lookup (bytes_eq name) groups

-- with this group: one of its name is replaced in its place, a new one goes last
abbrev pub with_group : List ℕ → Group → List GroupRow → List GroupRow
with_group name group groups = insert_entry bytes_eq groups name group

-- each group has a name that a user may have
abbrev pub are_groups : List GroupRow → Bool
are_groups groups = list_all (λ row. is_user row.0) groups

-- the user is among the members
abbrev pub has_member : List ℕ → Group → Bool
has_member user group = list_any (bytes_eq user) group.members

-- the user is a member of the group; of one that isn't listed the user of its name is the only one
abbrev pub is_member : List GroupRow → (group user : List ℕ) → Bool
is_member groups group user =
    option_map_or (has_member user) (group_of group groups) (bytes_eq group user)

-- the user leads the group; one that isn't listed is led by the user of its name
abbrev pub leads : List GroupRow → (group user : List ℕ) → Bool
leads groups group user =
    option_map_or (λ g. bytes_eq g.leader user) (group_of group groups) (bytes_eq group user)

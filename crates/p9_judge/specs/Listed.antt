-- What the judge keeps of the listed users and of the groups.
use Rattle.std.specs.Prelude.{◌≡◌, ◌==◌, ℕ, ◌&&◌, ◌||◌, Bool, false, not, List, length, take}
use Rattle.std.specs.List.{list_any}
use Rattle.std.specs.Option.{option_map_or}
use Rattle.std.specs.Str.{bytes_eq}
use Rattle.p9_base.specs.Group.{Group, GroupRow, group_of, is_member, leads}
use Rattle.p9_policy.specs.declared.classes.Classes.{Classes}
use Rattle.p9_judge.specs.declared.listed.Listed.{Listed}

module _ (users : List (List ℕ)) (groups : List GroupRow) (classes : Classes) where
  -- one of the users is a member of the group of the name, or leads it, and that class counts
  abbrev pub has_in_group : List ℕ → Bool
  has_in_group name =
      (classes.members && list_any (is_member groups name) users)
      || (classes.leader && list_any (leads groups name) users)

  -- one of the users is of a class that counts, for a node of this owner and this group
  abbrev pub has_of_a_class : (owner group : List ℕ) → Bool
  has_of_a_class owner group =
      (classes.others && not (length users == 0))
      || ((classes.owner && list_any (bytes_eq owner) users) || has_in_group group)

-- one of the group's members is among the users
abbrev pub has_listed : List (List ℕ) → Group → Bool
has_listed users group = list_any (λ member. list_any (bytes_eq member) users) group.members

-- the name is that of a group which is listed before the position, and has one of the users as a
-- member
abbrev pub is_marked : List (List ℕ) → List GroupRow → ℕ → List ℕ → Bool
is_marked users groups position name =
    list_any (λ row. bytes_eq name row.0) (take position groups)
    && option_map_or (has_listed users) (group_of name groups) false

-- the set has the users that are listed, and the names of the listed groups that have one of them
-- as a member
pub record Lists {A : Type 0} (users : List (List ℕ)) (groups : List GroupRow) (listed : Listed A) :
    Type 0 where
  pub same : (name : List ℕ)
      → list_any (bytes_eq name) listed.users.keys ≡ list_any (bytes_eq name) users
  pub marked : (name : List ℕ) → list_any (bytes_eq name) listed.groups.keys
      ≡ option_map_or (has_listed listed.users.keys) (group_of name groups) false

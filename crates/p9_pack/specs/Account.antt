-- The lines of /etc/passwd and /etc/group.
use Rattle.std.specs.Prelude.{ℕ, ◌^◌, ◌==◌, List, ◌∷◌, Option, None, filter, length, map}
use Rattle.std.specs.Prelude.{nat_lt}
use Rattle.std.specs.List.{filter_map, slice_split}
use Rattle.std.specs.Option.{option_and_then, option_map}
use Rattle.p9_base.specs.Decimal.{number_of}
use Rattle.p9_base.specs.Line.{lines_of}
use Rattle.p9_pack.specs.declared.account.UserAccount.{UserAccount}
use Rattle.p9_pack.specs.declared.account.GroupAccount.{GroupAccount}

-- a user, with the number of its own group
pub record UserRow : Type 0 where
  pub name : List ℕ
  pub uid : ℕ
  pub gid : ℕ

-- a group, with the members that are listed
pub record GroupRow : Type 0 where
  pub name : List ℕ
  pub gid : ℕ
  pub members : List (List ℕ)

-- users and groups
pub record AccountRows : Type 0 where
  pub users : List UserRow
  pub groups : List GroupRow

-- what is between the colons of a line
abbrev pub fields_of : List ℕ → List (List ℕ)
fields_of line = slice_split (λ b. b == 58) line

-- what is between the commas of a text, without what is empty
abbrev pub listed_in : List ℕ → List (List ℕ)
listed_in text = filter (λ name. nat_lt 0 (length name)) (slice_split (λ b. b == 44) text)

-- the number of a user or a group
abbrev pub id_in : List ℕ → Option ℕ
id_in word = number_of (2 ^ 32) word

-- the user of NAME:PASSWORD:UID:GID, with any fields after these
abbrev pub user_in : List (List ℕ) → Option UserRow
user_in (name ∷ password ∷ uid ∷ gid ∷ others) =
    option_and_then (λ uid.
    option_map (λ gid. record { name = name; uid = uid; gid = gid }) (id_in gid)) (id_in uid)
user_in fields = None

-- the group of NAME:PASSWORD:GID:MEMBERS, with any fields after these
abbrev pub group_in : List (List ℕ) → Option GroupRow
group_in (name ∷ password ∷ gid ∷ members ∷ others) =
    option_map (λ gid. record { name = name; gid = gid; members = listed_in members }) (id_in gid)
group_in fields = None

-- the users and the groups of a text, a line each; a line of another form has none
abbrev pub user_rows : List ℕ → List UserRow
user_rows text = filter_map (λ line. user_in (fields_of line)) (lines_of text)

abbrev pub group_rows : List ℕ → List GroupRow
group_rows text = filter_map (λ line. group_in (fields_of line)) (lines_of text)

-- the names of the users whose own group has this number
abbrev pub users_of : ℕ → List UserRow → List (List ℕ)
users_of gid users = map (λ user. user.name) (filter (λ user. user.gid == gid) users)

-- accounts of the code, as they are seen
abbrev pub user_row : UserAccount → UserRow
user_row user = record { name = user.name.now; uid = user.uid; gid = user.gid }

abbrev pub group_row : GroupAccount → GroupRow
group_row group =
    record { name = group.name.now; gid = group.gid; members = listed_in group.members.now }

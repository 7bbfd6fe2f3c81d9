-- The groups that are listed have valid names.
use Rattle.std.proofs.Common.{Bool, List, None, Option, Some, [], false, refl, subst, sym, true, ℕ}
use Rattle.std.proofs.Common.{if◌then◌else◌, ◌∷◌, ◌≡◌}
use Rattle.std.proofs.lemmas.Slice.Eq.{bytes_eq-Decides}
use Rattle.std.specs.Option.{option_map_or}
use Rattle.std.specs.Str.{bytes_eq}
use Rattle.indexmap.specs.IndexMap.{insert_entry}
use Rattle.p9_base.specs.Group.{Group, GroupRow, are_groups, group_of, has_member, is_member, leads}
use Rattle.p9_base.specs.User.{is_user}

-- a group that is put in keeps them valid
pub groups-listed : (name : List ℕ) (group : Group) → is_user name ≡ true → (groups : List GroupRow)
    → are_groups groups ≡ true → are_groups (insert_entry bytes_eq groups name group) ≡ true
groups-listed name group valid [] all = rw valid refl
groups-listed name group valid (row ∷ rows) all =
    go (is_user row.0) refl (bytes_eq name row.0) (groups-listed name group valid rows)
  where
    go : (u : Bool) → is_user row.0 ≡ u → (b : Bool)
        → (are_groups rows ≡ true → are_groups (insert_entry bytes_eq rows name group) ≡ true)
        → are_groups (if b then (row.0, group) ∷ rows else row ∷ insert_entry bytes_eq rows name group) ≡ true
    go false e b later = let no : false ≡ true = rw e at all in absurd (cc)
    go true e true later = all
    go true e false later = let rest : are_groups rows ≡ true = rw e at all in rw e (later rest)

-- so a group that is listed has a valid name
pub group_of-valid : (name : List ℕ) (group : Group) (groups : List GroupRow)
    → are_groups groups ≡ true → group_of name groups ≡ Some group → is_user name ≡ true
group_of-valid name group [] all found = let no : None ≡ Some group = found in absurd (cc)
group_of-valid name group (row ∷ rows) all found =
    go (is_user row.0) refl (bytes_eq name row.0) refl (group_of-valid name group rows)
  where
    go : (u : Bool) → is_user row.0 ≡ u → (b : Bool) → bytes_eq name row.0 ≡ b
        → (are_groups rows ≡ true → group_of name rows ≡ Some group → is_user name ≡ true)
        → is_user name ≡ true
    go false e b same later = let no : false ≡ true = rw e at all in absurd (cc)
    go true e true same later =
        subst (λ n. is_user n ≡ true) (sym ((bytes_eq-Decides name row.0).0 same)) e
    go true e false same later =
        let rest : are_groups rows ≡ true = rw e at all in
        let found_later : group_of name rows ≡ Some group = rw same at found in
        later rest found_later

-- the group that a user is a member of, or leads, has a valid name
by_group : (name user : List ℕ) (groups : List GroupRow) (test : Group → Bool)
    → are_groups groups ≡ true → is_user user ≡ true
    → option_map_or test (group_of name groups) (bytes_eq name user) ≡ true → is_user name ≡ true
by_group name user groups test all valid holds = go (group_of name groups) refl
  where
    go : (o : Option Group) → group_of name groups ≡ o → is_user name ≡ true
    go (Some group) e = group_of-valid name group groups all e
    go None e =
        let same : bytes_eq name user ≡ true = rw e at holds in
        subst (λ n. is_user n ≡ true) (sym ((bytes_eq-Decides name user).0 same)) valid

pub member-valid : (groups : List GroupRow) (name user : List ℕ) → are_groups groups ≡ true
    → is_user user ≡ true → is_member groups name user ≡ true → is_user name ≡ true
member-valid groups name user all valid member =
    by_group name user groups (has_member user) all valid member

pub leads-valid : (groups : List GroupRow) (name user : List ℕ) → are_groups groups ≡ true
    → is_user user ≡ true → leads groups name user ≡ true → is_user name ≡ true
leads-valid groups name user all valid led =
    by_group name user groups (λ g. bytes_eq g.leader user) all valid led

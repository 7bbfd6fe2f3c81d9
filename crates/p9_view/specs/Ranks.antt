-- Ranks: how many users are listed before one.
use Rattle.std.specs.Prelude.{◌≡◌, ◌⊎◌, ℕ, Bool, true, IsTrue, List, Some, slice_get}
use Rattle.std.specs.BTreeMap.{is_at}
use Rattle.std.specs.List.{list_any}
use Rattle.std.specs.Ordering.{nat_cmp}
use Rattle.p9_base.specs.Group.{Group, has_member}
use Rattle.p9_policy.specs.declared.classes.Classes.{Classes}

-- whether a rank is among some
abbrev pub has_rank : List ℕ → ℕ → Bool
has_rank ranks rank = list_any (is_at (nat_cmp rank)) ranks

-- the ranks of all these users are added to those that are there
pub record HasAdded (Is : List ℕ → Type 0) (users : List (List ℕ)) (old new : List ℕ) : Type 0 where
  pub kept : (i : ℕ) → has_rank old i ≡ true → has_rank new i ≡ true
  pub added : (i : ℕ) (user : List ℕ) → slice_get users i ≡ Some user → Is user
      → has_rank new i ≡ true

-- the user is of one of these classes of a group: one of its members, or its leader
abbrev pub IsOfGroup : Classes → Group → List ℕ → Type 0
IsOfGroup classes group user =
    (IsTrue classes.members × IsTrue (has_member user group))
    ⊎ (IsTrue classes.leader × (user ≡ group.leader))

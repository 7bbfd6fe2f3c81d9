-- The owners, groups and leaders of what is packed.
use Rattle.std.specs.Prelude.{ℕ, List, Option, Some, None, Result, Ok, Err, codes}
use Rattle.std.specs.Prelude.{if◌then◌else◌}
use Rattle.p9_pack.specs.Account.{AccountRows}
use Rattle.p9_pack.specs.Accounts.{group_name, has_user, user_name}
use Rattle.p9_world.specs.declared.unfit.Unfit.{Unfit as UnfitFor}
use Rattle.p9_world.specs.Unfit.{unfit_user}
use Rattle.p9_admin.specs.declared.reason.Reason.{Reason}
use Rattle.p9_admin.specs.declared.reason.Reason.TheVariants.{NoGroup, NoUser, Unfit}

-- a name, unless something is against it
abbrev pub unless_unfit : Option UnfitFor → List ℕ → Result (List ℕ) Reason
unless_unfit None name = Ok name
unless_unfit (Some unfit) name = Err (Unfit unfit)

-- a name that was found, if a user or a group may have it
abbrev pub named : Option (List ℕ) → Reason → Result (List ℕ) Reason
named None none = Err none
named (Some name) none = unless_unfit (unfit_user name) name

-- the owner that is asked for, or else the user of the number
abbrev pub owner_of : Option (List ℕ) → AccountRows → ℕ → Result (List ℕ) Reason
owner_of (Some user) accounts uid = Ok user
owner_of None accounts uid = named (user_name uid accounts) (NoUser uid)

-- the group that is asked for, or else that of the number
abbrev pub group_of : Option (List ℕ) → AccountRows → ℕ → Result (List ℕ) Reason
group_of (Some group) accounts gid = Ok group
group_of None accounts gid = named (group_name gid accounts) (NoGroup gid)

-- the leader that is asked for, or else the user of the group's name, or else 'sys'
abbrev pub leader_of : Option (List ℕ) → AccountRows → List ℕ → List ℕ
leader_of (Some leader) accounts group = leader
leader_of None accounts group = if has_user group accounts then group else codes "sys"

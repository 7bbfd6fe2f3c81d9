use Rattle.std.proofs.Common.{◌≡◌, ◌++◌, drop, map}
use Rattle.p9_pack.specs.Account.{user_row, users_of}
use Rattle.p9_pack.proofs.accounts.push_users_of.Given as goal

-- the names so far, and those of the users that are left
abbrev pub invariant-loop-user : goal.invariant-loop-user
invariant-loop-user g l =
    map (λ name. name.now) l.names.items ++ users_of l.gid (map user_row (drop l.user-index l.users))
    ≡ map (λ name. name.now) l.initial.names.items ++ users_of l.gid (map user_row l.users)

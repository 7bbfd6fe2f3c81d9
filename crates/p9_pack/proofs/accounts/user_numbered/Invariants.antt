use Rattle.std.proofs.Common.{◌≡◌, drop, find, map}
use Rattle.std.specs.Prelude.{◌==◌}
use Rattle.p9_pack.specs.Account.{user_row}
use Rattle.p9_pack.proofs.accounts.user_numbered.Given as goal

-- the one that is looked for is among those that are left
abbrev pub invariant-loop-user : goal.invariant-loop-user
invariant-loop-user l =
    find (λ user. user.uid == l.uid) (map user_row (drop l.user-index l.users))
    ≡ find (λ user. user.uid == l.uid) (map user_row l.users)

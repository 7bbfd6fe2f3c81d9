use Rattle.std.proofs.Common.{◌≡◌, drop, find, map}
use Rattle.std.specs.Str.{bytes_eq}
use Rattle.p9_pack.specs.Account.{user_row}
use Rattle.p9_pack.proofs.accounts.user_named.Given as goal

-- the one that is looked for is among those that are left
abbrev pub invariant-loop-user : goal.invariant-loop-user
invariant-loop-user l =
    find (λ user. bytes_eq user.name l.name) (map user_row (drop l.user-index l.users))
    ≡ find (λ user. bytes_eq user.name l.name) (map user_row l.users)

use Rattle.std.proofs.Common.{◌≡◌, drop, map}
use Rattle.std.specs.List.{list_any}
use Rattle.std.specs.Str.{bytes_eq}
use Rattle.p9_pack.specs.Account.{user_row}
use Rattle.p9_pack.proofs.accounts.has_name.Given as goal

-- one that has the name is among those that are left
abbrev pub invariant-loop-user : goal.invariant-loop-user
invariant-loop-user l =
    list_any (λ user. bytes_eq user.name l.name) (map user_row (drop l.user-index l.users))
    ≡ list_any (λ user. bytes_eq user.name l.name) (map user_row l.users)

use Rattle.std.proofs.Common.{◌≡◌, ◌++◌, drop, map}
use Rattle.std.specs.List.{filter_map}
use Rattle.p9_pack.specs.Account.{fields_of, user_in, user_row, user_rows}
use Rattle.p9_pack.proofs.account.user_accounts.Given as goal

-- the users so far, and those of the lines that are left
abbrev pub invariant-loop-line : goal.invariant-loop-line
invariant-loop-line g l =
    map user_row l.users.items
    ++ filter_map (λ line. user_in (fields_of line)) (map (λ line. line.now) (drop l.line-index l.line-items))
    ≡ user_rows l.text

use Rattle.std.proofs.Common.{◌≡◌, ◌++◌, drop, map}
use Rattle.std.specs.List.{filter_map}
use Rattle.p9_pack.specs.Account.{fields_of, group_in, group_row, group_rows}
use Rattle.p9_pack.proofs.account.group_accounts.Given as goal

-- the groups so far, and those of the lines that are left
abbrev pub invariant-loop-line : goal.invariant-loop-line
invariant-loop-line g l =
    map group_row l.groups.items
    ++ filter_map (λ line. group_in (fields_of line)) (map (λ line. line.now) (drop l.line-index l.line-items))
    ≡ group_rows l.text

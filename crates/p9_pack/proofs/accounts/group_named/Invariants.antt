use Rattle.std.proofs.Common.{◌≡◌, drop, find, map}
use Rattle.std.specs.Str.{bytes_eq}
use Rattle.p9_pack.specs.Account.{group_row}
use Rattle.p9_pack.proofs.accounts.group_named.Given as goal

-- the one that is looked for is among those that are left
abbrev pub invariant-loop-group : goal.invariant-loop-group
invariant-loop-group l =
    find (λ group. bytes_eq group.name l.name) (map group_row (drop l.group-index l.groups))
    ≡ find (λ group. bytes_eq group.name l.name) (map group_row l.groups)

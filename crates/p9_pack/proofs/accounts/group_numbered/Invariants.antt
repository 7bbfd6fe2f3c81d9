use Rattle.std.proofs.Common.{◌≡◌, drop, find, map}
use Rattle.std.specs.Prelude.{◌==◌}
use Rattle.p9_pack.specs.Account.{group_row}
use Rattle.p9_pack.proofs.accounts.group_numbered.Given as goal

-- the one that is looked for is among those that are left
abbrev pub invariant-loop-group : goal.invariant-loop-group
invariant-loop-group l =
    find (λ group. group.gid == l.gid) (map group_row (drop l.group-index l.groups))
    ≡ find (λ group. group.gid == l.gid) (map group_row l.groups)

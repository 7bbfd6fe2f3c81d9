use Rattle.std.proofs.Common.{◌≡◌, take}
use Rattle.p9_view.proofs.ranks.Ranks.of.Given as goal

-- the users so far
abbrev pub invariant-loop-user : goal.invariant-loop-user
invariant-loop-user g l = l.ranks.users.keys ≡ take l.user-index l.users

use Rattle.std.proofs.Common.{◌≡◌, ◌++◌, drop}
use Rattle.p9_world.specs.Text.{spaced}
use Rattle.p9_world.proofs.put.put_users.Given as goal

-- the text, and the words of the users that are left
abbrev pub invariant-loop-user : goal.invariant-loop-user
invariant-loop-user g l =
    l.text.items ++ spaced (drop l.user-index l.users) ≡ l.initial.text.items ++ spaced l.users

use Rattle.std.proofs.Common.{◌≡◌, ℕ, List, take}
use Rattle.std.specs.List.{list_any}
use Rattle.std.specs.Str.{bytes_eq}
use Rattle.p9_judge.proofs.listed.users_of.Given as goal

-- the set has the users so far
abbrev pub invariant-loop-user : goal.invariant-loop-user
invariant-loop-user g l =
    (name : List ℕ) → list_any (bytes_eq name) l.set.keys
    ≡ list_any (bytes_eq name) (take l.user-index l.users)

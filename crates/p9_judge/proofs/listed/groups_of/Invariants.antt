use Rattle.std.proofs.Common.{◌≡◌, ℕ, List}
use Rattle.std.specs.List.{list_any}
use Rattle.std.specs.Str.{bytes_eq}
use Rattle.p9_judge.specs.Listed.{is_marked}
use Rattle.p9_judge.proofs.listed.groups_of.Given as goal

-- the groups so far are marked
abbrev pub invariant-loop-position : goal.invariant-loop-position
invariant-loop-position g l =
    (name : List ℕ) → list_any (bytes_eq name) l.marked.keys
    ≡ is_marked l.users.keys l.groups l.position name

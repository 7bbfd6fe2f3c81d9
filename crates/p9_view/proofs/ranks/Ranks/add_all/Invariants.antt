use Rattle.std.proofs.Common.{◌≡◌, true, take}
use Rattle.std.specs.List.{list_any}
use Rattle.std.specs.Str.{bytes_eq}
use Rattle.p9_view.specs.Ranks.{HasAdded}
use Rattle.p9_view.proofs.ranks.Ranks.add_all.Given as goal

-- those of the names so far are added
abbrev pub invariant-loop-name : goal.invariant-loop-name
invariant-loop-name g l =
    HasAdded (λ user. list_any (bytes_eq user) (take l.name-index l.names) ≡ true)
    l.self.users.keys l.initial.found.keys l.found.keys

use Rattle.std.proofs.Common.{◌≡◌, ◌++◌, ◌∷◌, drop}
use Rattle.std.specs.List.{flat_map}
use Rattle.p9_world.proofs.put.put_names.Given as goal

-- the text, and a slash and a name for each of those that are left
abbrev pub invariant-loop-name : goal.invariant-loop-name
invariant-loop-name g l =
    l.text.items ++ flat_map (λ name. 47 ∷ name) (drop l.name-index l.names)
    ≡ l.initial.text.items ++ flat_map (λ name. 47 ∷ name) l.names

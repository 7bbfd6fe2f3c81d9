use Rattle.std.proofs.Common.{◌≡◌, drop, map}
use Rattle.p9_world.specs.Path.{names_among}
use Rattle.p9_world.proofs.Names.{names_behind}
use Rattle.p9_world.proofs.path.names_among.Given as goal

-- the names so far, and those among the elements that are left, are those among all
abbrev pub invariant-loop-element : goal.invariant-loop-element
invariant-loop-element g l =
    names_behind l.names.items (map (λ e. e.now) (drop l.element-index l.elements))
    ≡ names_among (map (λ e. e.now) l.elements)

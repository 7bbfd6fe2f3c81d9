use Rattle.std.proofs.Common.{◌≡◌, map, take}
use Rattle.p9_clean.specs.Path.{shortened}
use Rattle.p9_clean.proofs.path.shorten.Given as goal

abbrev pub invariant-loop-element : goal.invariant-loop-element
invariant-loop-element g l =
    map (λ e. e.now) l.kept.items
    ≡ shortened l.rooted (map (λ e. e.now) (take l.element-index l.elements))

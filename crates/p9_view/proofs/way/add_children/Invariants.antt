use Rattle.std.proofs.Common.{◌≡◌, ◌-◌, ℕ, List}
use Rattle.std.specs.Map.{lookup}
use Rattle.std.specs.Option.{option_or}
use Rattle.std.specs.Str.{bytes_eq}
use Rattle.p9_tree.specs.Forest.{next_of}
use Rattle.p9_space.specs.Walk.{child_ref}
use Rattle.p9_cert.proofs.Children.{left_of, passed}
use Rattle.p9_view.proofs.Finds.{named}
use Rattle.p9_view.proofs.way.add_children.Given as goal

-- what is found of a name, so far and among the children that are left
abbrev pub invariant-loop-child : goal.invariant-loop-child
invariant-loop-child g l =
    let forest = l.forest in
    (name : List ℕ)
    → option_or (lookup (bytes_eq name) l.children.entries)
    (named forest l.dir name (left_of l.dir l.floor forest))
    ≡ option_or (lookup (bytes_eq name) l.initial.children.entries)
    (child_ref forest l.dir name)

abbrev pub decreases-loop-child : goal.decreases-loop-child
decreases-loop-child g l =
    next_of l.dir.server l.forest - passed l.floor

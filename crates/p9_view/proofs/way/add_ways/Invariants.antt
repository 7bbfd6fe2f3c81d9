use Rattle.std.proofs.Common.{◌≡◌, ◌++◌, ◌-◌, map, is_some}
use Rattle.std.specs.Prelude.{filter}
use Rattle.std.specs.Map.{lookup}
use Rattle.std.specs.Str.{bytes_eq}
use Rattle.p9_tree.specs.Forest.{next_of}
use Rattle.p9_cert.proofs.Children.{left_of, passed}
use Rattle.p9_view.specs.Way.{arrives, way_by, ways_into}
use Rattle.p9_view.proofs.way.add_ways.Given as goal

-- the ways so far, and those to the children that are left
abbrev pub invariant-loop-child : goal.invariant-loop-child
invariant-loop-child g l =
    let forest = l.forest in
    let table = l.table in
    l.ways.items ++ filter (arrives forest table)
    (map (way_by (λ name. is_some (lookup (bytes_eq name) l.earlier.entries)) l.searched l.dir)
    (left_of l.dir l.floor forest))
    ≡ l.initial.ways.items ++ ways_into forest table
    (λ name. is_some (lookup (bytes_eq name) l.earlier.entries)) l.searched l.dir

abbrev pub decreases-loop-child : goal.decreases-loop-child
decreases-loop-child g l =
    next_of l.dir.server l.forest - passed l.floor

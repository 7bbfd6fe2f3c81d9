use Rattle.std.proofs.Common.{◌≡◌, ◌++◌, ◌-◌, map}
use Rattle.p9_tree.specs.Forest.{next_of}
use Rattle.p9_cert.proofs.Children.{left_of, passed}
use Rattle.p9_judge.specs.Search.{child_place, child_places}
use Rattle.p9_judge.proofs.search.Search.discover_children.Given as goal

-- the places, followed by those of the children that are left, are all that there will be
abbrev pub invariant-loop-child : goal.invariant-loop-child
invariant-loop-child g l =
    let forest = l.forest in record {
      discovered : l.self.places.items
          ++ map (child_place l.from l.dir) (left_of l.dir l.floor forest)
          ≡ l.initial.self.places.items ++ child_places forest l.from l.dir;
      passed : l.self.passed.keys ≡ l.initial.self.passed.keys;
    }

abbrev pub decreases-loop-child : goal.decreases-loop-child
decreases-loop-child g l =
    next_of l.dir.server l.forest - passed l.floor

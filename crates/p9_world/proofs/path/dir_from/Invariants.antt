use Rattle.std.proofs.Common.{◌≡◌, drop}
use Rattle.p9_world.specs.Path.{number_from}
use Rattle.p9_world.proofs.path.dir_from.Given as goal

-- the names that are left lead from here to where all of them lead from the first node
abbrev pub invariant-loop-name : goal.invariant-loop-name
invariant-loop-name g l =
    let nodes = (g.T.Tree.state l.tree).nodes in
    number_from l.number (drop l.name-index l.names) nodes ≡ number_from l.from l.names nodes

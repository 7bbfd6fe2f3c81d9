use Rattle.std.proofs.Common.{◌≡◌, Some, sym}
use Rattle.p9_tree.specs.Forest.{child_in}
use Rattle.p9_space.proofs.Arrivals.{child-there}
use Rattle.p9_space.proofs.walk.child_in.Goals as goal

pub returns-clause-node : goal.returns-clause-node
returns-clause-node g c =
    let forest = c.args.forest.now in
    let found : child_in c.args.dir c.in_ok-name.field-0.now forest ≡ Some c.in_ok-node.node.now =
    sym c.in_ok-node.ensures in
    rw (c.beside.ensures, c.number.ensures)
    (child-there forest c.well_formed-2.ensures c.args.dir c.in_ok-name.field-0.now
    c.in_ok-node.node.now found)

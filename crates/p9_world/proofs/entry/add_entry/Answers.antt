use Rattle.std.proofs.Common.{◌≡◌, Some}
use Rattle.p9_world.specs.Path.{dir_of}
use Rattle.p9_world.proofs.LastDirs.{led-joined}
use Rattle.p9_world.proofs.entry.add_entry.Goals as goal

pub returns-clause-led : goal.returns-clause-led
returns-clause-led g c =
    let found : Some c.in-Some.dir ≡ dir_of c.args.names.items (g.T.Tree.state c.args.tree.now) =
    rw c.as_slice.ensures.value at c.in-Some.ensures in
    rw c.in_ok-add.ensures.ok
    (led-joined c.args.names.items (g.T.Tree.state c.args.tree.now) c.in-Some.dir _ found)

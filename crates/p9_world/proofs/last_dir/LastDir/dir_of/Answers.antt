use Rattle.std.proofs.Common.{◌≡◌, ◌++◌}
use Rattle.std.proofs.lemmas.Slice.Eq.{bytes_eq-Decides, strip_prefix_is}
use Rattle.p9_world.proofs.LastDirs.{dir_of-behind}
use Rattle.p9_world.proofs.last_dir.LastDir.dir_of.Goals as goal

pub returns-in-Some : goal.returns-in-Some
returns-in-Some g c =
    let stripped =
    strip_prefix_is bytes_eq-Decides c.args.names.now c.as_slice.result.now c.strip_prefix.result
    c.strip_prefix.ensures.cases in
    let split : c.args.names.now ≡ c.as_slice.result.now ++ c.in-Some.rest.now =
    rw c.in-Some.is at stripped in
    rw c.dir_from.ensures
    (dir_of-behind c.args.names.now c.args.self.now.names.items c.in-Some.rest.now
    c.args.self.now.number (g.T.Tree.state c.args.tree.now)
    (rw c.as_slice.ensures.value at split) c.requires)

use Rattle.p9_world.proofs.LastDirs.{number_from-owned}
use Rattle.p9_world.proofs.entry.make_dir.Goals as goal

pub returns-in_default-clause-led : goal.returns-in_default-clause-led
returns-in_default-clause-led g c =
    rw c.set_root.ensures
    (number_from-owned c.args.permissions c.args.uid c.args.gid 0 c.args.last_dir.now.number
    c.args.last_dir.now.names.items (g.T.Tree.state c.args.tree.now).nodes c.requires)

use Rattle.std.proofs.Common.{◌∙◌, sym}
use Rattle.p9_judge.proofs.Users.{some-of-classes}
use Rattle.p9_judge.proofs.listed.Listed.has_one_of.Goals as goal

pub returns : goal.returns
returns g c =
    rw (c.uid.ensures, c.gid.ensures) at c.has_of_a_class.ensures
    ∙ sym (some-of-classes c.args.world.now.users c.args.world.now.groups c.args.classes
    c.args.node.now)

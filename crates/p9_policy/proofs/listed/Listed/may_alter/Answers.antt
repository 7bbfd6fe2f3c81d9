use Rattle.std.proofs.Common.{◌∙◌}
use Rattle.p9_policy.specs.Classes.{is_of}
use Rattle.p9_policy.specs.Listed.{is_alterable, may_alter}
use Rattle.p9_policy.proofs.ByClass.{some-same}
use Rattle.p9_policy.proofs.listed.Listed.may_alter.Goals as goal

pub returns : goal.returns
unfolding is_alterable
returns g c =
    let dir = c.args.dir.now in
    c.is_one_of.ensures
    ∙ some-same c.args.self.users.now c.args.self.groups.now (is_of c.to_alter.result dir)
    (may_alter dir) c.to_alter.ensures

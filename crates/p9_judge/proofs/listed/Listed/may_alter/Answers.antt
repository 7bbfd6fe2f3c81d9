use Rattle.std.proofs.Common.{◌∙◌}
use Rattle.p9_cert.specs.Classes.{is_of}
use Rattle.p9_cert.specs.Listed.{is_alterable, may_alter}
use Rattle.p9_policy.proofs.ByClass.{some-same}
use Rattle.p9_judge.proofs.listed.Listed.may_alter.Goals as goal

pub returns : goal.returns
unfolding is_alterable
returns g c =
    let n = c.args.dir.now in
    c.has_one_of.ensures
    ∙ some-same c.args.world.now.users c.args.world.now.groups (is_of c.to_alter.result n)
    (may_alter n) c.to_alter.ensures

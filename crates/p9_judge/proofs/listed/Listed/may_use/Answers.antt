use Rattle.std.proofs.Common.{◌∙◌}
use Rattle.p9_cert.specs.Classes.{is_of}
use Rattle.p9_cert.specs.Listed.{is_open, may_use}
use Rattle.p9_policy.proofs.ByClass.{some-same}
use Rattle.p9_judge.proofs.listed.Listed.may_use.Goals as goal

pub returns : goal.returns
unfolding is_open
returns g c =
    let n = c.args.node.now in
    c.has_one_of.ensures
    ∙ some-same c.args.world.now.users c.args.world.now.groups (is_of c.to_use.result n)
    (may_use n) c.to_use.ensures

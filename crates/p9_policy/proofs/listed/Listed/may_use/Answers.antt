use Rattle.std.proofs.Common.{◌∙◌}
use Rattle.p9_policy.specs.Classes.{is_of}
use Rattle.p9_policy.specs.Listed.{is_open, may_use}
use Rattle.p9_policy.proofs.ByClass.{some-same}
use Rattle.p9_policy.proofs.listed.Listed.may_use.Goals as goal

pub returns : goal.returns
unfolding is_open
returns g c =
    let n = c.args.node.now in
    c.is_one_of.ensures
    ∙ some-same c.args.self.users.now c.args.self.groups.now (is_of c.to_use.result n) (may_use n)
    c.to_use.ensures

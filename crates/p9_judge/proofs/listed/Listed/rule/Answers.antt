use Rattle.std.proofs.Common.{◌∙◌}
use Rattle.p9_space.specs.Rights.{rules}
use Rattle.p9_cert.specs.Classes.{is_of}
use Rattle.p9_cert.specs.Listed.{is_owned}
use Rattle.p9_policy.proofs.ByClass.{some-same}
use Rattle.p9_judge.proofs.listed.Listed.rule.Goals as goal

pub returns : goal.returns
unfolding is_owned
returns g c =
    let n = c.args.node.now in
    c.has_one_of.ensures
    ∙ some-same c.args.world.now.users c.args.world.now.groups (is_of c.to_rule.result n)
    (λ who. rules who n) (c.to_rule.ensures n)

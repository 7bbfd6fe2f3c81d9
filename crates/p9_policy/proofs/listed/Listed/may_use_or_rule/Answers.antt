use Rattle.std.proofs.Common.{◌∙◌, ◌||◌}
use Rattle.p9_table.specs.Rights.{rules}
use Rattle.p9_policy.specs.Classes.{is_of}
use Rattle.p9_policy.specs.Listed.{may_use}
use Rattle.p9_policy.proofs.ByClass.{open_or_owned, some-same}
use Rattle.p9_policy.proofs.listed.Listed.may_use_or_rule.Goals as goal

pub returns : goal.returns
returns g c =
    let n = c.args.node.now in
    c.is_one_of.ensures
    ∙ some-same c.args.self.users.now c.args.self.groups.now (is_of c.to_use_or_rule.result n)
    (λ who. may_use n who || rules who n) c.to_use_or_rule.ensures
    ∙ open_or_owned c.args.self.users.now c.args.self.groups.now n

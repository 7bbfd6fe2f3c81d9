use Rattle.std.proofs.Common.{◌∙◌, ◌≤◌, length, arith}
use Rattle.p9_judge.specs.Listed.{has_listed}
use Rattle.p9_judge.proofs.Users.{marked-all}
use Rattle.p9_judge.proofs.listed.groups_of.Goals as goal

pub returns : goal.returns
returns g c =
    let end : length c.args.groups.now ≤ c.loop-position.position = omega arith in
    λ name. c.loop-position.invariant name
    ∙ marked-all (has_listed c.args.users.now.keys) c.args.groups.now c.loop-position.position end name

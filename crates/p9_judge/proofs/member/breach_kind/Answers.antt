use Rattle.std.proofs.Common.{◌≡◌, None, arith, rules}
use Rattle.std.proofs.lemmas.Grind.{common_steps}
use Rattle.p9_tree.specs.Forest.{node_of}
use Rattle.p9_cert.specs.Policy.{policy_of}
use Rattle.p9_judge.proofs.Members.{kind-absent}
use Rattle.p9_judge.proofs.member.breach_kind.Goals as goal

pub returns-in_err-node : goal.returns-in_err-node
returns-in_err-node g c =
    let world = c.args.world.now in
    let absent : node_of c.args.at world.forest ≡ None = search rules in
    let safe = kind-absent (policy_of world) world.forest c.args.at absent in
    grind (arith, common_steps, safe)

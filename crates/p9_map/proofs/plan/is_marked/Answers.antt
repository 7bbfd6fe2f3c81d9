use Rattle.std.proofs.Common.{◌∙◌}
use Rattle.p9_judge.proofs.Keys.{has-row}
use Rattle.p9_map.proofs.plan.is_marked.Goals as goal

pub returns : goal.returns
returns g c = c.contains.ensures ∙ has-row c.args.marked.now.keys c.args.node

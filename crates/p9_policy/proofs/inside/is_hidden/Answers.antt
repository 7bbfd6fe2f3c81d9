use Rattle.std.proofs.Common.{◌∙◌}
use Rattle.p9_policy.proofs.Parents.{row_is_hidden}
use Rattle.p9_policy.proofs.inside.is_hidden.Goals as goal

pub returns : goal.returns
returns c = c.is_among.ensures ∙ row_is_hidden c.args.hidden.now c.args.at

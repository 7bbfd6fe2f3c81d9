use Rattle.std.proofs.Common.{◌∙◌}
use Rattle.p9_space.specs.Rights.{who_view}
use Rattle.p9_right.proofs.Held.{may_one-to_write}
use Rattle.p9_right.proofs.right.altering_right.Goals as goal

pub returns-clause-altered : goal.returns-clause-altered
returns-clause-altered g c =
    c.first_right.ensures.held ∙ may_one-to_write (who_view c.args.who) c.args.node.now

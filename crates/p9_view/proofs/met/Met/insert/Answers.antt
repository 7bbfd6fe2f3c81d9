use Rattle.p9_view.proofs.Mets.{others-kept}
use Rattle.p9_view.proofs.met.Met.insert.Goals as goal

pub returns-clause-others : goal.returns-clause-others
returns-clause-others g c = λ others apart.
    others-kept (λ key. key.items) c.args.nodes.items others _ _
    c.in_ok-insert.ensures.updates.3 apart

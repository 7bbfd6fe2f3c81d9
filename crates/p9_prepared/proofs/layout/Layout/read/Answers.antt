use Rattle.p9_prepared.proofs.Layouts.{steps-by}
use Rattle.p9_prepared.proofs.layout.Layout.read.Goals as goal

pub returns-clause-read : goal.returns-clause-read
returns-clause-read g c = λ whole number reading same.
    rw (
      c.go_on-section.ensures,
      c.in_ok-begins.ensures,
      c.behind-self.ensures,
      c.is_some.ensures,
      c.way_of-way.ensures,
    )
    (steps-by c.args.self.now.progress c.args.text.now c.has_begun.result whole number reading same
    c.head_of-head.result c.head_of-head.ensures)

use Rattle.p9_index.proofs.Ranges.{first_elsewhere, first_in_range, none_in_range}
use Rattle.p9_index.proofs.entries.Entries.number_after.Goals as goal

pub returns-then-first-dir-clause-some : goal.returns-then-first-dir-clause-some
returns-then-first-dir-clause-some g c =
    first_in_range c.args.self.now c.args.dir c.args.floor _ c.children_from-start.ensures _
    (c.range.ensures.in_range tt) _ _ c.in_ok-first.ensures.steps c.if-first-dir.true

pub returns-else-first-dir-clause-none : goal.returns-else-first-dir-clause-none
returns-else-first-dir-clause-none g c =
    first_elsewhere c.args.self.now c.args.dir c.args.floor _ c.children_from-start.ensures _
    (c.range.ensures.in_range tt) _ _ c.in_ok-first.ensures.steps c.if-first-dir.false

pub returns-in_err-first-clause-none : goal.returns-in_err-first-clause-none
returns-in_err-first-clause-none g c =
    rw c.from_residual.ensures
    (none_in_range c.args.self.now c.args.dir c.args.floor _ c.children_from-start.ensures _
    (c.range.ensures.in_range tt) c.in_err-first.ensures.steps.0)

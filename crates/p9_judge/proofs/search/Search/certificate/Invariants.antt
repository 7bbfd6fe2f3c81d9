use Rattle.std.proofs.Common.{◌≡◌, ◌++◌}
use Rattle.p9_judge.proofs.search.Search.certificate.Given as goal

-- the rows so far and those that are left are all
abbrev pub invariant-loop-row : goal.invariant-loop-row
invariant-loop-row g l =
    (goal.iterator-loop-row g).can_next l.row-iterator ×
    (goal.iterator-loop-row g).is_finite l.row-iterator ×
    (l.certificate ++ l.row-iterator ≡ l.self.passed.keys)

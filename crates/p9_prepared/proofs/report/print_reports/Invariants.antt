use Rattle.std.proofs.Common.{◌≡◌, ◌++◌, drop}
use Rattle.p9_prepared.specs.Report.{reports_text}
use Rattle.p9_prepared.proofs.report.print_reports.Given as goal

-- what is printed, and what the reports that are left print
abbrev pub invariant-loop-line : goal.invariant-loop-line
invariant-loop-line g l =
    l.err.items ++ reports_text (drop l.line-index l.reports) ≡ l.fn.err.items
    ++ reports_text l.reports

use Rattle.std.proofs.Common.{◌≡◌, drop, map}
use Rattle.p9_base.specs.Statement.{statements_of}
use Rattle.p9_base.specs.Results.{try_fold}
use Rattle.p9_nsline.specs.Line.{line_view, lines_in, with_line}
use Rattle.p9_nsline.proofs.line.read_lines.Given as goal

-- the lines so far, and what the statements that are left add
abbrev pub invariant-loop-statement : goal.invariant-loop-statement
invariant-loop-statement g l =
    try_fold with_line (map line_view l.lines.items)
    (drop l.statement-index (statements_of l.text)) ≡ lines_in l.text

use Rattle.std.proofs.Common.{drop}
use Rattle.std.specs.List.{enumerate_from}
use Rattle.p9_base.specs.Line.{lines_of}
use Rattle.p9_base.specs.Results.{try_fold}
use Rattle.p9_prepared.specs.Bundle.{unread, with_numbered_line}
use Rattle.p9_prepared.specs.Layout.{first_bad}
use Rattle.p9_prepared.proofs.Layouts.{Holds}
use Rattle.p9_prepared.proofs.layout.input_lines.Given as goal

-- the first bad line so far is that of all lines; where there is none, the lines that are left make of
-- the sections so far what all lines make
abbrev pub invariant-loop-position : goal.invariant-loop-position
invariant-loop-position g l =
    let numbered = enumerate_from 1 (lines_of l.fn.input) in
    Holds (first_bad l.found.items) l.layout.progress
    (λ reading. try_fold with_numbered_line reading (drop l.position numbered))
    (try_fold with_numbered_line unread numbered)

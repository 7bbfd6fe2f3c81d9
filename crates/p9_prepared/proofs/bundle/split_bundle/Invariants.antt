use Rattle.std.proofs.Common.{◌≡◌, ◌+◌, drop}
use Rattle.std.specs.List.{enumerate_from}
use Rattle.p9_base.specs.Line.{lines_of}
use Rattle.p9_base.specs.Results.{try_fold}
use Rattle.p9_prepared.specs.Bundle.{IsReadTo, Texts, reading_of, unread, with_numbered_line}
use Rattle.p9_prepared.proofs.bundle.split_bundle.Given as goal

-- the sections are read up to the lines that are left, and what these make of them is what all lines
-- make
abbrev pub invariant-loop-position : goal.invariant-loop-position
invariant-loop-position g l =
    let lines = lines_of l.fn.text in
    (texts : Texts)
    × (try_fold with_numbered_line (reading_of l.reader texts)
    (drop l.position (enumerate_from 1 lines))
    ≡ try_fold with_numbered_line unread (enumerate_from 1 lines))
    × IsReadTo l.fn.text (l.position + 1) (drop l.position lines) l.reader texts

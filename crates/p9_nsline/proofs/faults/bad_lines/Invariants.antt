use Rattle.std.proofs.Common.{◌≡◌, ◌++◌, drop, map, All}
use Rattle.std.specs.List.{filter_map}
use Rattle.p9_base.specs.Statement.{statements_of}
use Rattle.p9_nsline.specs.Faults.{bad_form_in, bad_line_view, bad_lines_in, word_of}
use Rattle.p9_nsline.proofs.faults.bad_lines.Given as goal

-- the lines found so far and those that are left to find; and of each the place of the bad word
abbrev pub invariant-loop-statement : goal.invariant-loop-statement
invariant-loop-statement g l =
    (map bad_line_view l.found.items
    ++ filter_map bad_form_in (drop l.statement-index (statements_of l.text)) ≡ bad_lines_in l.text)
    × All (λ bad. bad.word ≡ word_of bad.kind) l.found.items

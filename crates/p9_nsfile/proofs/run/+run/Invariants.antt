use Rattle.std.proofs.Common.{◌≡◌, ◌+◌, ◌*◌, drop, map}
use Rattle.p9_nsline.specs.Line.{line_view}
use Rattle.p9_nsfile.specs.Run.{lines_done}
use Rattle.p9_nsfile.proofs.run.+run.Given as goal

-- fewer files may still be nested; then lines, a line, its operation, a file
abbrev pub decreases-run_lines : goal.decreases-run_lines
decreases-run_lines g l = 4 * l.left + 3

abbrev pub decreases-run_line : goal.decreases-run_line
decreases-run_line g l = 4 * l.left + 2

abbrev pub decreases-act : goal.decreases-act
decreases-act g l = 4 * l.left + 1

abbrev pub decreases-include : goal.decreases-include
decreases-include g l = 4 * l.left

-- the lines that are left, from here, make what all lines make
abbrev pub invariant-run_lines-loop-line : goal.invariant-run_lines-loop-line
invariant-run_lines-loop-line g l =
    lines_done l.environment l.left l.outer l.space (map line_view (drop l.line-index l.lines))
    ≡ lines_done l.environment l.left l.outer l.initial.space (map line_view l.lines)

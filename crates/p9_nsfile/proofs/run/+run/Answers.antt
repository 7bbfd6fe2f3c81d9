use Rattle.std.proofs.Common.{◌-◌, ◌<◌, List, Some, Ok, map, refl, sym, ap, subst, ◌∙◌, arith}
use Rattle.p9_base.specs.Results.{and_then}
use Rattle.p9_nsline.specs.Answer.{Acts}
use Rattle.p9_nsline.specs.Line.{NumberedLine, line_view}
use Rattle.p9_nsline.specs.Operation.{operation_view}
use Rattle.p9_nsline.specs.Include.{included_lines}
use Rattle.p9_nsline.proofs.Including.{Acts-no_lines}
use Rattle.p9_nsfile.specs.Run.{acted, included, lines_done}
use Rattle.p9_nsfile.proofs.Running.{included-more, included-none}
use Rattle.p9_nsfile.proofs.run.+run.Goals as goal

pub act-returns-in-Mount : goal.act-returns-in-Mount
act-returns-in-Mount g t c =
    let environment = c.args.environment.now in
    let space = c.args.space.now in
    subst (λ operation. Acts
    (acted environment (included environment c.args.left c.args.line) space (operation_view operation))
    space c.mount.new.space c.mount.result)
    (sym c.in-Mount.is) c.mount.ensures

pub include-returns-then-left-eq0 : goal.include-returns-then-left-eq0
include-returns-then-left-eq0 g t c = (
  ap (λ left. included c.args.environment.now left c.args.line c.args.space.now c.args.path.now)
      c.if-left-eq0.true
      ∙ included-none c.args.environment.now c.args.line c.args.space.now c.args.path.now,
  refl,
)

pub include-returns-in_err-lines : goal.include-returns-in_err-lines
include-returns-in_err-lines g t c =
    let environment = c.args.environment.now in
    let space = c.args.space.now in
    let some : 0 < c.args.left = omega arith in
    subst (λ answer. Acts answer space space c.from_residual.result)
    (sym (included-more environment c.args.left c.args.line space c.args.path.now some))
    (Acts-no_lines g.row.T-Alloc.Denot (included_lines environment space c.args.path.now)
    (λ lines. Ok (lines_done environment (c.args.left - 1) (Some c.args.line) space lines)) space
    c.in_err-lines.field-0.0 c.from_residual.result c.from_residual.ensures.1
    c.in_err-lines.ensures)

pub include-returns : goal.include-returns
include-returns g t c =
    let environment = c.args.environment.now in
    let space = c.args.space.now in
    let some : 0 < c.args.left = omega arith in
    let run =
    λ (lines : List NumberedLine). lines_done environment (c.args.left - 1) (Some c.args.line) space
    lines in
    included-more environment c.args.left c.args.line space c.args.path.now some
    ∙ ap (λ answer. and_then answer (λ lines. Ok (run lines))) c.in_ok-lines.ensures
    ∙ ap (λ lines. Ok (run (map line_view lines))) (sym c.deref.ensures.value)
    ∙ ap Ok (sym c.in_ok-run_lines.ensures)

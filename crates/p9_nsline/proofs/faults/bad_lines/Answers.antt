use Rattle.std.proofs.Common.{◌≡◌, ◌++◌, None, Some, append-nil, map, sym, ap, ◌∙◌}
use Rattle.std.specs.Prelude.{option_map, slice_get}
use Rattle.std.proofs.lemmas.List.{map_push}
use Rattle.std.proofs.lemmas.List.Elements.{All-push, All-same}
use Rattle.p9_base.specs.Statement.{statement_view, statements_of}
use Rattle.p9_nsline.specs.declared.faults.BadLine.{BadLine}
use Rattle.p9_nsline.specs.Faults.{bad_form_in, bad_line_view, bad_lines_in, word_of}
use Rattle.p9_nsline.proofs.BadForms.{first-bad}
use Rattle.p9_nsline.proofs.Founds.{found-end, found-more}
use Rattle.p9_nsline.proofs.faults.bad_lines.Goals as goal
use Rattle.p9_nsline.proofs.faults.bad_lines.Goals.{in-Some+in_ok-push, in_default}

abbrev HasPlace : BadLine → Type 0
HasPlace bad = bad.word ≡ word_of bad.kind

pub loop-statement-preserved : goal.loop-statement-preserved
loop-statement-preserved g c =
    let items = c.deref-statement-items.result.now in
    let ys = statements_of c.args.text.now in
    let same : map statement_view items ≡ ys =
    ap (map statement_view) c.deref-statement-items.ensures.value
    ∙ c.in_ok-statements.ensures in
    let before = c.loop-statement.found.items in
    let after = c.match-bad_line.found.items in
    let i = c.loop-statement.statement-index in
    elim c.match-bad_line.branch [
      | in-Some+in_ok-push w ↦
          let bad = w.in-Some.bad in
          let added = ap (λ v. v.items) w.found-is ∙ w.in_ok-push.ensures.items in (
            found-more statement_view bad_form_in items ys same i (map bad_line_view before)
                (map bad_line_view after) (Some (bad_line_view bad)) (bad_lines_in c.args.text.now)
                c.statement-item.result c.statement-item.result c.loop-statement-test.true
                c.statement-item.is
                (sym c.bad_line.ensures.line ∙ ap (option_map bad_line_view) w.in-Some.is)
                (ap (map bad_line_view) added ∙ map_push bad_line_view before bad)
                c.loop-statement.invariant.0,
            All-same HasPlace _ _ added
                (All-push HasPlace before bad c.loop-statement.invariant.1 w.in-Some.ensures.word),
          )
      | in_default w ↦
          let kept = ap (λ v. v.items) w.found-is in (
            found-more statement_view bad_form_in items ys same i (map bad_line_view before)
                (map bad_line_view after) None (bad_lines_in c.args.text.now)
                c.statement-item.result c.statement-item.result c.loop-statement-test.true
                c.statement-item.is
                (sym c.bad_line.ensures.line ∙ ap (option_map bad_line_view) w.in_default.is)
                (ap (map bad_line_view) kept ∙ sym (append-nil (map bad_line_view before)))
                c.loop-statement.invariant.0,
            All-same HasPlace _ _ kept c.loop-statement.invariant.1,
          )
    ]

pub returns-clause-first : goal.returns-clause-first
returns-clause-first g c =
    let items = c.deref-statement-items.result.now in
    let ys = statements_of c.args.text.now in
    let same : map statement_view items ≡ ys =
    ap (map statement_view) c.deref-statement-items.ensures.value
    ∙ c.in_ok-statements.ensures in
    let found = map bad_line_view c.loop-statement.found.items in
    let all : found ≡ bad_lines_in c.args.text.now =
    sym (append-nil found)
    ∙ ap (λ rest. found ++ rest)
    (sym (found-end statement_view bad_form_in items ys same c.loop-statement.statement-index
    c.loop-statement-test.false))
    ∙ c.loop-statement.invariant.0 in
    ap (λ lines. slice_get lines 0) all ∙ first-bad c.args.text.now

use Rattle.std.proofs.Common.{◌≡◌, ◌+◌, [], ◌∷◌, ◌++◌, Ok, map, drop, ap, ◌∙◌}
use Rattle.std.proofs.lemmas.List.{map_push}
use Rattle.p9_base.specs.Statement.{statement_view, statements_of}
use Rattle.p9_base.specs.Results.{and_then, try_fold}
use Rattle.p9_base.proofs.Results.{try_fold-ok}
use Rattle.p9_nsline.specs.Line.{line_view, lines_in, with_line}
use Rattle.p9_nsline.proofs.Words.{IfErr-same}
use Rattle.p9_nsline.proofs.Lines.{lines-fault}
use Rattle.p9_nsline.proofs.line.read_lines.Goals as goal

pub loop-statement-init : goal.loop-statement-init
unfolding lines_in
loop-statement-init g c =
    ap (λ ls. try_fold with_line (map line_view ls) (statements_of c.args.text.now))
    c.new-lines.ensures.items

pub returns-in_err-read_line-clause-err : goal.returns-in_err-read_line-clause-err
returns-in_err-read_line-clause-err g c =
    let items = c.deref-statement-items.result.now in
    let ys = statements_of c.args.text.now in
    let same : map statement_view items ≡ ys =
    ap (map statement_view) c.deref-statement-items.ensures.value
    ∙ c.in_ok-statements.ensures in
    let lines = map line_view c.loop-statement.lines.items in
    IfErr-same c.from_residual-in_err-read_line.result c.in_err-read_line.field-0.0 _
    c.from_residual-in_err-read_line.ensures.1
    (lines-fault statement_view items ys same lines c.loop-statement.statement-index
    c.statement-item.result c.statement-item.result c.loop-statement-test.true
    c.statement-item.is
    c.in_err-read_line.field-0.0 _ c.in_err-read_line.ensures.err c.loop-statement.invariant)

pub loop-statement-preserved : goal.loop-statement-preserved
loop-statement-preserved g c =
    let items = c.deref-statement-items.result.now in
    let ys = statements_of c.args.text.now in
    let same : map statement_view items ≡ ys =
    ap (map statement_view) c.deref-statement-items.ensures.value
    ∙ c.in_ok-statements.ensures in
    let lines = map line_view c.loop-statement.lines.items in
    let line = line_view c.in_ok-read_line.field-0 in
    let i = c.loop-statement.statement-index in
    ap (λ ls. try_fold with_line ls (drop (i + 1) ys))
    (ap (map line_view) c.in_ok-push.ensures.items
    ∙ map_push line_view c.loop-statement.lines.items _)
    ∙ try_fold-ok with_line statement_view items ys same lines i (lines ++ line ∷ [])
    c.statement-item.result c.statement-item.result c.loop-statement-test.true
    c.statement-item.is
    (ap (λ r. and_then r (λ l. Ok (lines ++ l ∷ []))) c.in_ok-read_line.ensures.ok)
    ∙ c.loop-statement.invariant

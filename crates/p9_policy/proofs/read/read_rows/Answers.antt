use Rattle.std.proofs.Common.{◌∙◌, [], map, refl, sym}
use Rattle.std.proofs.lemmas.Result.{err_from_is_err_and}
use Rattle.p9_base.specs.Statement.{statement_view}
use Rattle.p9_base.specs.Results.{try_fold}
use Rattle.p9_base.proofs.Results.{try_fold-err, try_fold-ok}
use Rattle.p9_policy.specs.Text.{with_statement}
use Rattle.p9_policy.proofs.Readings.{told-of-all}
use Rattle.p9_policy.proofs.read.read_rows.Goals as goal

pub returns-in_err-read_statement-clause-err : goal.returns-in_err-read_statement-clause-err
returns-in_err-read_statement-clause-err g c =
    let statements = c.args.statements.now in
    let told =
    told-of-all c.in_err-read_statement.field-0.0 _
    (try_fold with_statement [] (map statement_view statements))
    c.in_err-read_statement.ensures.err
    (λ line bad. sym c.loop-statement.invariant
    ∙ try_fold-err with_statement statement_view statements (map statement_view statements) refl
    c.loop-statement.certificate c.loop-statement.statement-index line c.statement-item.result
    c.statement-item.result c.loop-statement-test.true c.statement-item.is bad) in
    let p =
    err_from_is_err_and c.from_residual.result c.from_residual.ensures.1 in
    rw (p.1, p.2) told

pub loop-statement-preserved : goal.loop-statement-preserved
loop-statement-preserved g c =
    let statements = c.args.statements.now in
    try_fold-ok with_statement statement_view statements (map statement_view statements) refl
    c.loop-statement.certificate c.loop-statement.statement-index
    c.read_statement.new.certificate c.statement-item.result c.statement-item.result
    c.loop-statement-test.true c.statement-item.is c.in_ok-read_statement.ensures.ok
    ∙ c.loop-statement.invariant

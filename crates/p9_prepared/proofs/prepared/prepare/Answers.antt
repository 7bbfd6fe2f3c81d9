use Rattle.std.proofs.Common.{◌≡◌, ◌∙◌, IfErr, IfOk, Ok, Result, [], subst, sym}
use Rattle.p9_prepared.specs.Prepared.{IsPrepareError, Prepared, Rejected, opened, prepared_with}
use Rattle.p9_prepared.proofs.Preparing.{part-found}
use Rattle.p9_prepared.proofs.Statements.{prepared_with-same}
use Rattle.p9_prepared.proofs.prepared.prepare.Goals as goal

pub returns-in-Ok-clause-ok : goal.returns-in-Ok-clause-ok
returns-in-Ok-clause-ok g c =
    let found = c.in-Ok.ensures.ok in
    subst
    (λ (asked : Result Prepared Rejected). IfOk c.prepare_with.result (λ prepared. asked ≡ Ok prepared))
    (prepared_with-same c.args.needs _ found.0 _ found.2
    ∙ sym
    (part-found [] (opened c.args.input.now)
    (λ found. prepared_with c.args.needs found.0 found.1) _ found.1))
    c.prepare_with.ensures.ok

pub returns-in-Ok-clause-refused : goal.returns-in-Ok-clause-refused
returns-in-Ok-clause-refused g c =
    let found = c.in-Ok.ensures.ok in
    subst
    (λ (asked : Result Prepared Rejected). IfErr c.prepare_with.result (IsPrepareError asked))
    (prepared_with-same c.args.needs _ found.0 _ found.2
    ∙ sym
    (part-found [] (opened c.args.input.now)
    (λ found. prepared_with c.args.needs found.0 found.1) _ found.1))
    c.prepare_with.ensures.refused

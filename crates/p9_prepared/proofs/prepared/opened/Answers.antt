use Rattle.std.proofs.lemmas.Result.{err_from_is_err_and}
use Rattle.p9_prepared.specs.Bundle.{bundle_view}
use Rattle.p9_prepared.proofs.Preparing.{opened-ok, opened-stop}
use Rattle.p9_prepared.proofs.prepared.opened.Goals as goal

pub returns-in_err-space-clause-stop : goal.returns-in_err-space-clause-stop
returns-in_err-space-clause-stop g c =
    let r = c.from_residual-in_err-space in
    let p = err_from_is_err_and r.result r.ensures.1 in
    let found = c.in_ok-bundle.ensures.ok in
    let given = c.in-Some.ensures.some in
    rw (p.1, p.2)
    (opened-stop c.args.input.now c.in-Some.text.now (bundle_view c.in_ok-bundle.bundle) found.0
    given.0 given.1 found.1 found.2 _ _ c.text_of.ensures c.text_of-2.ensures _
    c.in_err-space.ensures.stop)

pub returns-clause-ok : goal.returns-clause-ok
returns-clause-ok g c =
    let found = c.in_ok-bundle.ensures.ok in
    let given = c.in-Some.ensures.some in (
      found.0,
      opened-ok c.args.input.now c.in-Some.text.now (bundle_view c.in_ok-bundle.bundle) found.0
          given.0 given.1 found.1 found.2 _ _ c.text_of.ensures c.text_of-2.ensures c.in_ok-space.space
          c.in_ok-space.ensures.ok,
      found.2,
    )

use Rattle.std.proofs.Common.{map, ap, ◌∙◌}
use Rattle.std.proofs.lemmas.List.{map_push}
use Rattle.std.proofs.lemmas.Result.{err_from_is_err_and}
use Rattle.p9_base.specs.Statement.{statement_view, statements_of}
use Rattle.p9_export.specs.Event.{event_view}
use Rattle.p9_prepared.proofs.Scripts.{script-joined, script-fault}
use Rattle.p9_prepared.proofs.script.read_script.Goals as goal

pub loop-statement-preserved : goal.loop-statement-preserved
loop-statement-preserved g c =
    let same =
    ap (map statement_view) c.deref-statement-items.ensures.value
    ∙ c.in_ok-statements.ensures in
    script-joined statement_view c.deref-statement-items.result.now (statements_of c.args.text.now)
    same (map event_view c.loop-statement.events.items) c.loop-statement.statement-index
    c.statement-item.result _ c.loop-statement-test.true c.statement-item.is
    (event_view c.in_ok-event.event) _ _ c.in_ok-event.ensures.ok
    (ap (map event_view) c.in_ok-push.ensures.items
    ∙ map_push event_view c.loop-statement.events.items c.in_ok-event.event)
    c.loop-statement.invariant

pub returns-in_err-event-clause-bad : goal.returns-in_err-event-clause-bad
returns-in_err-event-clause-bad g c =
    let same =
    ap (map statement_view) c.deref-statement-items.ensures.value
    ∙ c.in_ok-statements.ensures in
    let r = c.from_residual-in_err-event in
    let p = err_from_is_err_and r.result r.ensures.1 in
    rw (p.1, p.2)
    (script-fault statement_view c.deref-statement-items.result.now (statements_of c.args.text.now)
    same (map event_view c.loop-statement.events.items) c.loop-statement.statement-index
    c.statement-item.result _ c.loop-statement-test.true c.statement-item.is
    _ _ c.in_err-event.ensures.bad c.loop-statement.invariant)

use Rattle.std.proofs.Common.{◌≡◌, ◌++◌, None, Some, append-nil, map, sym, ap, ◌∙◌}
use Rattle.std.specs.Prelude.{option_map, slice_get}
use Rattle.p9_base.specs.Statement.{statement_view, statements_of}
use Rattle.p9_nsline.proofs.Founds.{found-end, found-more}
use Rattle.p9_prepared.specs.ScriptFaults.{bad_event_in, bad_events_in}
use Rattle.p9_prepared.proofs.BadEvents.{first-bad}
use Rattle.p9_prepared.proofs.script_faults.bad_events.Goals as goal
use Rattle.p9_prepared.proofs.script_faults.bad_events.Goals.{in-Some+in_ok-push, in_default}

pub loop-statement-preserved : goal.loop-statement-preserved
loop-statement-preserved g c =
    let items = c.deref-statement-items.result.now in
    let ys = statements_of c.args.text.now in
    let same : map statement_view items ≡ ys =
    ap (map statement_view) c.deref-statement-items.ensures.value
    ∙ c.in_ok-statements.ensures in
    let before = c.loop-statement.found.items in
    let after = c.match-branch-3.found.items in
    let i = c.loop-statement.statement-index in
    elim c.match-branch-3.branch [
      | in-Some+in_ok-push w ↦
          found-more statement_view bad_event_in items ys same i before after (Some w.in-Some.bad)
          (bad_events_in c.args.text.now) c.statement-item.result c.statement-item.result
          c.loop-statement-test.true c.statement-item.is
          (sym c.in_ok-bad.ensures ∙ w.in-Some.is)
          (ap (λ v. v.items) w.found-is ∙ w.in_ok-push.ensures.items) c.loop-statement.invariant
      | in_default w ↦
          found-more statement_view bad_event_in items ys same i before after None
          (bad_events_in c.args.text.now) c.statement-item.result c.statement-item.result
          c.loop-statement-test.true c.statement-item.is
          (sym c.in_ok-bad.ensures ∙ w.in_default.is)
          (ap (λ v. v.items) w.found-is ∙ sym (append-nil before)) c.loop-statement.invariant
    ]

pub returns-clause-first : goal.returns-clause-first
returns-clause-first g c =
    let items = c.deref-statement-items.result.now in
    let ys = statements_of c.args.text.now in
    let same : map statement_view items ≡ ys =
    ap (map statement_view) c.deref-statement-items.ensures.value
    ∙ c.in_ok-statements.ensures in
    let found = c.loop-statement.found.items in
    let all : found ≡ bad_events_in c.args.text.now =
    sym (append-nil found)
    ∙ ap (λ rest. found ++ rest)
    (sym (found-end statement_view bad_event_in items ys same c.loop-statement.statement-index
    c.loop-statement-test.false))
    ∙ c.loop-statement.invariant in
    ap (λ lines. option_map (λ bad. bad.line) (slice_get lines 0)) all ∙ first-bad c.args.text.now

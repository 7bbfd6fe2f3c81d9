use Rattle.std.proofs.Common.{◌≡◌, ◌<◌, ◌∙◌, length, map, refl, sym, ap, arith, string_bytes}
use Rattle.std.proofs.lemmas.List.{length-map}
use Rattle.p9_base.specs.Statement.{statement_view, statements_of}
use Rattle.p9_base.proofs.Results.{try_fold-err, try_fold-ok}
use Rattle.p9_world.specs.Faults.{fault_view}
use Rattle.p9_world.specs.Read.{read_statement}
use Rattle.p9_world.specs.World.{World}
use Rattle.p9_world.proofs.BadLines.{AreFound-bad, AreFound-good, first-with_none, first-with_server}
use Rattle.p9_world.proofs.Readings.{is-positive, is-zero}
use Rattle.p9_world.proofs.faults.bad_lines_from.Goals as goal
use Rattle.p9_world.proofs.faults.bad_lines_from.Goals.{in-Some+in_ok-push, in_default}
use Rattle.p9_world.proofs.faults.bad_lines_from.Goals.{then-is_empty+in_ok-push-2, else-is_empty}

pub loop-statement-preserved : goal.loop-statement-preserved
loop-statement-preserved g c =
    let same =
    ap (map statement_view) c.deref-statement-items.ensures.value
    ∙ c.in_ok-statements.ensures in
    elim c.match-branch-3.branch [
      | in-Some+in_ok-push w ↦
          (let bad = rw w.in-Some.is at c.in_ok-bad.ensures in
          rw (w.found-is, w.in_ok-push.ensures.items)
          (AreFound-bad c.loop-statement.found.items w.in-Some.bad _ _ _ c.loop-statement.invariant
          (try_fold-err read_statement statement_view c.deref-statement-items.result.now
          (statements_of c.args.text.now) same c.loop-statement.world c.loop-statement.statement-index
          (fault_view w.in-Some.bad) c.statement-item.result c.statement-item.result
          c.loop-statement-test.true c.statement-item.is bad)))
      | in_default w ↦
          (let good = rw w.in_default.is at c.in_ok-bad.ensures in
          rw w.found-is
          (AreFound-good c.loop-statement.found.items _ _ _ c.loop-statement.invariant
          (try_fold-ok read_statement statement_view c.deref-statement-items.result.now
          (statements_of c.args.text.now) same c.loop-statement.world c.loop-statement.statement-index
          c.read_on.new.world c.statement-item.result c.statement-item.result
          c.loop-statement-test.true c.statement-item.is good)))
    ]

pub returns : goal.returns
returns g c =
    let same =
    ap (map statement_view) c.deref-statement-items.ensures.value
    ∙ c.in_ok-statements.ensures in
    let count : length c.loop-statement.world.servers ≡ length c.world.inside.servers.items =
    sym (ap (λ (w : World). length w.servers) c.world.view_is)
    ∙ length-map c.world.inside.servers.items string_bytes in
    elim c.if-is_empty.branch [
      | then-is_empty+in_ok-push-2 w ↦
          (let none : length c.loop-statement.world.servers ≡ 0 =
          count ∙ sym c.world.inside.servers.ok.0
          ∙ is-zero c.is_empty.result _ c.is_empty.ensures w.if-is_empty.true in
          rw (w.found-is, w.in_ok-push-2.ensures.items)
          (first-with_none statement_view c.deref-statement-items.result.now c.args.text.now same
          c.loop-statement.world c.loop-statement.statement-index c.loop-statement-test.false
          c.loop-statement.found.items w.no_server.result c.loop-statement.invariant none
          (rw (w.no_server.ensures.line, w.no_server.ensures.kind) refl)))
      | else-is_empty w ↦
          (let some : 0 < length c.loop-statement.world.servers =
          omega (
            arith,
            count,
            c.world.inside.servers.ok.0,
            is-positive c.is_empty.result _ c.is_empty.ensures w.if-is_empty.false,
          ) in
          rw w.found-is
          (first-with_server statement_view c.deref-statement-items.result.now c.args.text.now same
          c.loop-statement.world c.loop-statement.statement-index c.loop-statement-test.false
          c.loop-statement.found.items c.loop-statement.invariant some))
    ]

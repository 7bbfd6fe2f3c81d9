use Rattle.std.proofs.Common.{◌≡◌, ◌<◌, length, map, sym, ap, ◌∙◌, arith, string_bytes}
use Rattle.std.proofs.lemmas.List.{length-map}
use Rattle.std.proofs.lemmas.Result.{err_from_is_err_and}
use Rattle.p9_base.specs.Statement.{statement_view, statements_of}
use Rattle.p9_base.specs.Results.{try_fold}
use Rattle.p9_base.proofs.Results.{try_fold-err, try_fold-ok}
use Rattle.p9_world.specs.Read.{read_statement}
use Rattle.p9_world.specs.World.{World}
use Rattle.p9_world.proofs.Readings.{Tells-world_of, is-positive, is-zero, world_of-none, world_of-ok}
use Rattle.p9_world.proofs.read.read_world.Goals as goal

pub loop-statement-init : goal.loop-statement-init
loop-statement-init g c =
    ap (λ w. try_fold read_statement w (statements_of c.args.text.now)) c.new-world.ensures

pub returns-in_err-read_statement-clause-err : goal.returns-in_err-read_statement-clause-err
returns-in_err-read_statement-clause-err g c =
    let same =
    ap (map statement_view) c.deref-statement-items.ensures.value
    ∙ c.in_ok-statements.ensures in
    let told =
    Tells-world_of c.in_err-read_statement.field-0.0 c.args.text.now _
    c.in_err-read_statement.ensures
    (λ e bad. sym c.loop-statement.invariant
    ∙ try_fold-err read_statement statement_view c.deref-statement-items.result.now
    (statements_of c.args.text.now) same c.loop-statement.world c.loop-statement.statement-index
    e c.statement-item.result c.statement-item.result c.loop-statement-test.true
    c.statement-item.is bad) in
    let p =
    err_from_is_err_and c.from_residual-in_err-read_statement.result
    c.from_residual-in_err-read_statement.ensures.1 in
    rw (p.1, p.2) told

pub loop-statement-preserved : goal.loop-statement-preserved
loop-statement-preserved g c =
    let same =
    ap (map statement_view) c.deref-statement-items.ensures.value
    ∙ c.in_ok-statements.ensures in
    try_fold-ok read_statement statement_view c.deref-statement-items.result.now
    (statements_of c.args.text.now) same c.loop-statement.world c.loop-statement.statement-index
    c.read_statement.new.world c.statement-item.result c.statement-item.result
    c.loop-statement-test.true c.statement-item.is c.in_ok-read_statement.ensures
    ∙ c.loop-statement.invariant

pub returns-then-is_empty-clause-err : goal.returns-then-is_empty-clause-err
returns-then-is_empty-clause-err g c =
    let same =
    ap (map statement_view) c.deref-statement-items.ensures.value
    ∙ c.in_ok-statements.ensures in
    let count : length c.loop-statement.world.servers ≡ length c.world-2.inside.servers.items =
    sym (ap (λ (w : World). length w.servers) c.world-2.view_is)
    ∙ length-map c.world-2.inside.servers.items string_bytes in
    let none : length c.loop-statement.world.servers ≡ 0 =
    count ∙ sym c.world-2.inside.servers.ok.0
    ∙ is-zero c.is_empty.result _ c.is_empty.ensures c.if-is_empty.true in
    world_of-none statement_view c.deref-statement-items.result.now c.args.text.now same
    c.loop-statement.world c.loop-statement.statement-index c.loop-statement-test.false
    c.loop-statement.invariant none

pub returns-clause-ok : goal.returns-clause-ok
returns-clause-ok g c =
    let same =
    ap (map statement_view) c.deref-statement-items.ensures.value
    ∙ c.in_ok-statements.ensures in
    let count : length c.loop-statement.world.servers ≡ length c.world-2.inside.servers.items =
    sym (ap (λ (w : World). length w.servers) c.world-2.view_is)
    ∙ length-map c.world-2.inside.servers.items string_bytes in
    let some : 0 < length c.loop-statement.world.servers =
    omega (
      arith,
      count,
      c.world-2.inside.servers.ok.0,
      is-positive c.is_empty.result _ c.is_empty.ensures c.if-is_empty.false,
    ) in
    rw c.into_world.ensures
    (world_of-ok statement_view c.deref-statement-items.result.now c.args.text.now same
    c.loop-statement.world c.loop-statement.statement-index c.loop-statement-test.false
    c.loop-statement.invariant some)

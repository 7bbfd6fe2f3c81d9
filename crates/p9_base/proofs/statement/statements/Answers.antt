use Rattle.std.proofs.Common.{arith, false, true, append-nil, length, map, ap, sym, ◌∙◌}
use Rattle.std.proofs.lemmas.List.{map_push, length-map}
use Rattle.p9_base.specs.Line.{is_skipped}
use Rattle.p9_base.specs.Statement.{statement_view}
use Rattle.p9_base.proofs.StatementLemmas.{statements_in-step, statements_in-all}
use Rattle.p9_base.proofs.statement.statements.Goals as goal
use Rattle.p9_base.proofs.statement.statements.Goals.{then-not-is_skipped+in_ok-push}
use Rattle.p9_base.proofs.statement.statements.Goals.{else-not-is_skipped}

pub loop-i-preserved : goal.loop-i-preserved
loop-i-preserved g c =
    let lines =
    ap (map (λ line. line.now)) c.deref-line-items.ensures.value ∙ c.in_ok-lines.ensures in
    let test =
    c.is_skipped.ensures
    ∙ ap (λ words. is_skipped (map (λ word. word.now) words)) c.as_slice.ensures.value in
    let one_more =
    statements_in-step c.loop-i.i _ c.deref-line-items.result.now _ _ _ lines c.loop-i-test.true
    c.in_ok-words.ensures c.loop-i.invariant in
    elim c.if-not-is_skipped.branch [
      | then-not-is_skipped+in_ok-push w ↦
          rw (w.statements-is, w.in_ok-push.ensures.items)
          (map_push statement_view c.loop-i.statements.items _
          ∙ one_more false (sym w.if-not-is_skipped.true ∙ test))
      | else-not-is_skipped w ↦
          rw w.statements-is (sym (append-nil _)
          ∙ one_more true (sym w.if-not-is_skipped.false ∙ test))
    ]

pub returns : goal.returns
returns g c =
    let lines =
    ap (map (λ line. line.now)) c.deref-line-items.ensures.value ∙ c.in_ok-lines.ensures in
    c.loop-i.invariant
    ∙ statements_in-all c.loop-i.i c.args.text.now
    (omega (
      arith,
      ap length (sym lines),
      length-map c.deref-line-items.result.now
          (λ line. line.now),
    ))

use Rattle.std.proofs.Common.{refl, subst, arith}
use denote.Param.Always.{mut_next}
use Rattle.p9_testing.specs.Turns.{TakesTurns}
use Rattle.p9_testing.proofs.TakesTurns.{TakesTurns-next}
use Rattle.p9_testing.proofs.turns.refuse_each.Goals as goal
use Rattle.p9_testing.proofs.turns.refuse_each.Goals.{else-loop-n-test}
use Rattle.p9_testing.proofs.turns.refuse_each.Goals.{then-loop-n-test+then-not-has_refused}

pub loop-n-preserved : goal.loop-n-preserved
loop-n-preserved g c = (
  mut_next _ _ _ _ _ _ c.make-value.ensures refl c.loop-n.invariant.0,
  mut_next _ _ _ _ _ _ c.run.ensures refl c.loop-n.invariant.1,
  TakesTurns-next _ _ _ _ _ _ _ _ _ _ _ c.loop-n.invariant.2 c.make-value.ensures c.run.ensures
      (omega (arith, c.loop-n.auto.n)),
  omega (arith, c.loop-n.auto.n),
)

pub returns : goal.returns
returns g c = elim c.loop-n-test.branch [
  | else-loop-n-test w ↦ (
    c.loop-n.make,
    c.loop-n.run,
    subst (TakesTurns _ _ _ _ _ _)
        (omega (arith, c.loop-n.invariant.3, w.refusals-is, w.loop-n-test.false))
        c.loop-n.invariant.2,
  )
  | then-loop-n-test+then-not-has_refused w ↦ (
    w.make-value.new.self,
    w.run.new.self,
    TakesTurns-next _ _ _ _ _ _ _ _ _ _ _
        c.loop-n.invariant.2 w.make-value.ensures w.run.ensures (omega (arith, w.refusals-is)),
  )
]

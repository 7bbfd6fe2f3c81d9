use Rattle.std.proofs.Common.{IfOk, subst, sym}
use Rattle.p9_explain.specs.Explained.{IsExplained}
use Rattle.p9_explain.proofs.Refusals.{refusal-explained}
use Rattle.p9_explain.proofs.explained.explain.Goals as goal

pub returns-in-Ok-clause-ok : goal.returns-in-Ok-clause-ok
returns-in-Ok-clause-ok g c =
    subst
    (λ asked. IfOk c.explain_prepared.result (λ status. IsExplained asked status c.args.out.now.items
    c.explain_prepared.new.out.items))
    (sym c.in-Ok.ensures.ok) c.explain_prepared.ensures.ok

pub returns-in-Err-clause-ok : goal.returns-in-Err-clause-ok
returns-in-Err-clause-ok g c =
    refusal-explained _ c.in-Err.error.reports.items c.in-Err.error.stop c.args.out.now.items
    c.explain_refusal.new.out.items c.in-Err.ensures.refused c.explain_refusal.result
    c.explain_refusal.ensures.ok

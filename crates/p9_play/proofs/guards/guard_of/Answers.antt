use Rattle.std.proofs.Common.{IfErr, IfOk, Ok, subst, ◌≡◌}
use Rattle.p9_play.specs.Guards.{guard_in}
use Rattle.p9_prepared.specs.Refusal.{IsStop}
use Rattle.p9_play.proofs.Guarding.{guard-ok, guard-stop}
use Rattle.p9_play.proofs.guards.guard_of.Goals as goal

pub returns-in-Some-clause-ok : goal.returns-in-Some-clause-ok
returns-in-Some-clause-ok g c =
    subst (λ p. IfOk c.guard_over.result (λ guard. guard_in p ≡ Ok guard)) c.prepared.view_is
    (rw c.in-Some.is
    (guard-ok c.prepared.inside.space c.in-Some.certificate c.guard_over.result c.guard_over.ensures.ok
    c.guard_over.ensures.closed))

pub returns-in-Some-clause-stop : goal.returns-in-Some-clause-stop
returns-in-Some-clause-stop g c =
    subst (λ p. IfErr c.guard_over.result (IsStop (guard_in p))) c.prepared.view_is
    (rw c.in-Some.is
    (guard-stop c.prepared.inside.space c.in-Some.certificate c.guard_over.result c.guard_over.ensures.stop))

use Rattle.std.proofs.Common.{sym, ◌∙◌}
use Rattle.p9_exchange.proofs.Talks.{same-stop, open-skips}
use Rattle.p9_exchange.proofs.talk.Talk.open.Goals as goal

pub returns-then-is_open-clause-stop : goal.returns-then-is_open-clause-stop
returns-then-is_open-clause-stop g c =
    same-stop c.skip.result _ _
    (open-skips _ c.args.line c.args.session _ _ c.in_ok-ask.ensures
    (sym c.is_open.ensures ∙ c.if-is_open.true)) c.skip.ensures.stop

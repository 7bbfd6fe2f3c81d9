use Rattle.std.proofs.Common.{sym, ◌∙◌}
use Rattle.p9_exchange.proofs.Talks.{same-stop, close-skips}
use Rattle.p9_exchange.proofs.talk.Talk.close.Goals as goal

pub returns-then-not-is_open-clause-stop : goal.returns-then-not-is_open-clause-stop
returns-then-not-is_open-clause-stop g c =
    same-stop c.skip.result _ _
    (close-skips _ c.args.line c.args.session _ _ c.in_ok-ask.ensures
    (sym c.is_open.ensures ∙ c.if-not-is_open.true)) c.skip.ensures.stop

use Rattle.std.proofs.Common.{sym, ◌∙◌, ap}
use Rattle.p9_exchange.specs.Talk.{asking, followed_by, talk_view}
use Rattle.p9_exchange.proofs.Talks.{same-stop, send-skips}
use Rattle.p9_exchange.proofs.talk.Talk.send.Goals as goal

pub returns-clause-stop : goal.returns-clause-stop
returns-clause-stop g c =
    same-stop c.skip-2.result _ _
    (send-skips _ c.args.line c.args.session _ _ c.args.frame.now
    (c.in_ok-ask.ensures
    ∙ ap (λ words. followed_by (talk_view c.args.self.now) (asking c.args.line c.args.session words))
    (c.as_slice.ensures.value ∙ c.in_ok-words.ensures))
    (sym c.is_frame.ensures ∙ c.if-not-is_frame.false)
    (sym c.is_open.ensures ∙ c.if-is_open.false)) c.skip-2.ensures.stop

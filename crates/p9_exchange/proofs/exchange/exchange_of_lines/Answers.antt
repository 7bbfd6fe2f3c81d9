use Rattle.std.proofs.Common.{Bor, List, ℕ, map}
use Rattle.std.proofs.lemmas.Result.{err_from_is_err_and}
use Rattle.p9_exchange.specs.Exchange.{talked, all_printed, exchange_of_lines}
use Rattle.p9_exchange.specs.Talk.{talk_view}
use Rattle.p9_exchange.proofs.Numbered.{line-taken, line-stops, lines-end}
use Rattle.p9_exchange.proofs.exchange.exchange_of_lines.Goals as goal

pub loop-position-preserved : goal.loop-position-preserved
loop-position-preserved g c =
    let replies = map (λ (reply : Bor (List ℕ)). reply.now) c.args.replies.now in (
      line-taken (talked replies) c.args.script.now (talk_view c.loop-position.talk)
          c.loop-position.position _ _ _ c.loop-position-test.true c.in_ok-talk_of.ensures.ok
          c.loop-position.invariant.0,
      c.in_ok-talk_of.ensures.within,
    )

pub returns-in_err-talk_of : goal.returns-in_err-talk_of
unfolding exchange_of_lines
returns-in_err-talk_of g c =
    let replies = map (λ (reply : Bor (List ℕ)). reply.now) c.args.replies.now in
    let r = c.from_residual in
    let p = err_from_is_err_and r.result r.ensures.1 in
    rw (p.1, p.2)
    (line-stops (talked replies) c.args.script.now (talk_view c.loop-position.talk)
    c.loop-position.position (all_printed replies) _ _ _ c.loop-position-test.true
    c.in_err-talk_of.ensures.stop c.loop-position.invariant.0)

pub returns : goal.returns
unfolding exchange_of_lines
returns g c =
    let replies = map (λ (reply : Bor (List ℕ)). reply.now) c.args.replies.now in
    rw (lines-end (talked replies) c.args.script.now (talk_view c.loop-position.talk)
    c.loop-position.position _ c.loop-position-test.false c.loop-position.invariant.0)
    c.all_printed.ensures

use Rattle.std.proofs.Common.{ℕ, ◌+◌, arith, refl, subst, sym}
use Rattle.p9_client.specs.Ahead.{Finds}
use Rattle.p9_client.proofs.Exchanged.{HasFound, found-reply, next-found, none-found}
use Rattle.p9_client.proofs.replies.Replies.drop_from.Goals as goal

pub loop-init : goal.loop-init
loop-init g c = none-found c.args.self.now c.args.first

pub loop-preserved : goal.loop-preserved
loop-preserved g c =
    let arrived = c.args.self.now in
    let reply = c.in_ok-dropped_reply.ensures in
    subst (λ (t : ℕ). HasFound arrived c.args.first t (c.loop.counter + 1)) (sym c.tag_after-tag.ensures)
    (next-found arrived c.args.first c.loop.tag c.loop.counter reply.0 c.loop.invariant
    (found-reply arrived c.loop.tag c.in_ok-with_tag.field-0.now reply.0 reply.0
    c.in_ok-with_tag.ensures.there c.in_ok-with_tag.ensures.size reply.1 refl))

pub returns : goal.returns
returns g c =
    let found = c.loop.invariant in (
      found.answers,
      subst (λ (n : ℕ). Finds c.args.self.now c.args.first n found.answers)
          (omega (arith, c.loop-test.false, c.loop.auto.counter-end)) found.found,
    )

use Rattle.std.proofs.Common.{ℕ, ◌+◌, ◌-◌, arith, length, subst, sym}
use Rattle.p9_wire.specs.Message.{Rwrite}
use Rattle.p9_client.specs.Ahead.{FindsReplies, FindsReply}
use Rattle.p9_client.proofs.Exchanged.{found-reply}
use Rattle.p9_client.proofs.WriteAhead.{HasTakenWrites, no-writes-taken, short-write-taken, write-taken, writes-taken}
use Rattle.p9_client.proofs.writing.take_writes.Goals as goal

pub loop-at-init : goal.loop-at-init
loop-at-init g c =
    record {
      within = omega arith;
      taken = no-writes-taken c.args.replies.now c.args.most c.args.len c.args.first;
    }

pub returns-then-written-size : goal.returns-then-written-size
returns-then-written-size g c =
    let arrived = c.args.replies.now in
    let reply = c.in-Ok.ensures in
    let next : FindsReply arrived c.loop-at.tag (Rwrite c.in-Ok.written) =
    found-reply arrived c.loop-at.tag c.in_ok-with_tag.field-0.now reply.0 _
    c.in_ok-with_tag.ensures.there c.in_ok-with_tag.ensures.size reply.1 reply.2.is in
    let left : ℕ = length arrived - c.loop-at.at - 1 in
    let drops : FindsReplies arrived c.tag_after-tag.result left =
    subst (λ (n : ℕ). FindsReplies arrived c.tag_after-tag.result (n - c.loop-at.at - 1)) c.len-then-written-size.ensures
    c.in_ok-drop_from.ensures in (
      omega (arith, c.if-written-size.true, c.min-size.ensures, c.loop-at.invariant.within),
      short-write-taken arrived c.args.most c.args.len c.args.first c.loop-at.tag c.loop-at.at
          c.loop-at.total c.in-Ok.written left c.loop-at.invariant.taken next
          (omega (arith, c.if-written-size.true, c.min-size.ensures))
          (subst (λ (t : ℕ). FindsReplies arrived t left) c.tag_after-tag.ensures drops)
          (omega (arith, c.loop-at-test.true, c.len-at-end.ensures)),
    )

pub loop-at-preserved : goal.loop-at-preserved
loop-at-preserved g c =
    let arrived = c.args.replies.now in
    let reply = c.in-Ok.ensures in
    let next : FindsReply arrived c.loop-at.tag (Rwrite c.in-Ok.written) =
    found-reply arrived c.loop-at.tag c.in_ok-with_tag.field-0.now reply.0 _
    c.in_ok-with_tag.ensures.there c.in_ok-with_tag.ensures.size reply.1 reply.2.is in
    record {
      within = omega (arith, reply.2.within, c.min-size.ensures, c.loop-at.invariant.within);
      taken = subst (λ (t : ℕ). HasTakenWrites arrived c.args.most c.args.len c.args.first t
          (c.loop-at.at + 1) (c.loop-at.total + c.in-Ok.written)) (sym c.tag_after-tag.ensures)
          (write-taken arrived c.args.most c.args.len c.args.first c.loop-at.tag c.loop-at.at
          c.loop-at.total c.in-Ok.written c.loop-at.invariant.taken next
          (omega (arith, reply.2.within, c.if-written-size.false, c.min-size.ensures)));
    }

pub returns : goal.returns
returns g c = (
  c.loop-at.invariant.within,
  writes-taken c.args.replies.now c.args.most c.args.len c.args.first c.loop-at.tag c.loop-at.at
      c.loop-at.total c.loop-at.invariant.taken
      (omega (arith, c.loop-at-test.false, c.loop-at.auto.at-end, c.len-at-end.ensures)),
)

use Rattle.std.proofs.Common.{◌≡◌, ◌+◌, length, ap, subst, ◌∙◌, arith}
use Rattle.p9_kept.specs.Making.{Makes}
use Rattle.p9_kept.proofs.Making.{piece-joined, piece-written}
use Rattle.p9_kept.proofs.Untouched.{untouched-then}
use Rattle.p9_kept.proofs.drafting.put_rest.Goals as goal

pub returns-in_err-put-clause-log : goal.returns-in_err-put-clause-log
returns-in_err-put-clause-log g c =
    let D = g.D.Device in
    untouched-then D.seen D.moment D.may_leave D.left_since c.args.log.now.device
    c.loop-at.log.device c.put.new.log.device c.loop-at.invariant.log c.put.ensures.log

pub loop-at-preserved : goal.loop-at-preserved
loop-at-preserved g c =
    let D = g.D.Device in
    let size : length c.bytes-bytes.result.now ≡ length c.args.node.now.bytes =
    ap length c.bytes-bytes.ensures in
    record {
      made = λ front made is next old.
          subst (Makes (D.drafted c.put.new.log.device) c.put.new.noted)
          (piece-written front made c.args.node.now c.loop-at.at (c.loop-at.at + c.min.result) _ next
          (omega (arith, size, c.loop-at-test.true)) (omega arith) (omega (arith, size, c.min.ensures))
          (piece-joined c.loop-at.at c.min.result c.args.node.now.bytes c.bytes-bytes.result.now
          c.bytes-bytes.ensures) c.args.server c.number-number.result is c.number-number.ensures)
          (c.in_ok-put.ensures.made _ (c.loop-at.invariant.made front made is next old));
      usable = c.put.ensures.usable ∙ c.loop-at.invariant.usable;
      log =
          untouched-then D.seen D.moment D.may_leave D.left_since c.args.log.now.device
          c.loop-at.log.device c.put.new.log.device c.loop-at.invariant.log c.put.ensures.log;
    }

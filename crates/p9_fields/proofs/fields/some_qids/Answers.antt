use Rattle.std.proofs.Common.{ℕ, ◌+◌, ap, ◌∙◌}
use Rattle.std.proofs.lemmas.List.{length_push}
use Rattle.p9_fields.specs.FieldReading.{times, qid_at}
use Rattle.p9_fields.proofs.Times.{goes_on, ends, is_done}
use Rattle.p9_fields.proofs.fields.some_qids.Goals as goal

pub returns-in_err-qid : goal.returns-in_err-qid
returns-in_err-qid c =
    rw c.from_residual.ensures
    (ends qid_at c.loop-i.qids c.args.count c.loop-i.i c.loop-i.rest.now
    (times qid_at c.args.count c.args.bytes.now) c.loop-i-test.true c.in_err-qid.ensures
    c.loop-i.invariant.so_far)

pub loop-i-preserved : goal.loop-i-preserved
loop-i-preserved c = record {
  so_far =
      rw c.push.ensures
      (goes_on qid_at c.loop-i.qids c.args.count c.loop-i.i c.loop-i.rest.now c.in_ok-qid.qid
      c.in_ok-qid.after.now (times qid_at c.args.count c.args.bytes.now) c.loop-i-test.true
      c.in_ok-qid.ensures c.loop-i.invariant.so_far);
  filled =
      rw c.push.ensures (length_push c.loop-i.qids c.in_ok-qid.qid
      ∙ ap (λ (n : ℕ). n + 1) c.loop-i.invariant.filled);
}

pub returns : goal.returns
returns c =
    is_done qid_at c.loop-i.qids c.args.count c.loop-i.i c.loop-i.rest.now
    (times qid_at c.args.count c.args.bytes.now) c.loop-i-test.false c.loop-i.invariant.so_far

use Rattle.std.proofs.Common.{◌≡◌, ◌-◌, length}
use Rattle.p9_fields.specs.FieldReading.{times, qid_at}
use Rattle.p9_fields.proofs.Times.{with_front}
use Rattle.p9_fields.proofs.fields.some_qids.Given as goal

abbrev pub invariant-loop-i : goal.invariant-loop-i
invariant-loop-i l = record {
  so_far : with_front qid_at l.qids (times qid_at (l.count - l.i) l.rest)
      ≡ times qid_at l.count l.bytes;
  filled : length l.qids ≡ l.i;
}

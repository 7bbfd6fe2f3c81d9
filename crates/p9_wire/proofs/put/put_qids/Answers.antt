use Rattle.std.proofs.Common.{length, get_or, arith}
use Rattle.std.proofs.lemmas.Option.{slice_get-get_or}
use Rattle.p9_base.specs.declared.qid.Qid.{Qid}
use Rattle.p9_wire.specs.Fields.{number, qid_bytes}
use Rattle.p9_wire.proofs.Items.{puts_more}
use Rattle.p9_wire.proofs.put.put_qids.Goals as goal

none : Qid
none = record { kind = 0; version = 0; path = 0 }

pub loop-qid-preserved : goal.loop-qid-preserved
unfolding none
loop-qid-preserved c =
    let items = c.as_slice-items.result.now in
    let i = c.loop-qid.qid-index in
    record {
      next = omega (arith, c.loop-qid.invariant.next, c.put_qid-end.ensures.next);
      puts =
          puts_more qid_bytes (number 2 (length items)) items i (get_or items i none) _ _ _ _ _ _
          (slice_get-get_or items i none c.loop-qid-test.true) c.loop-qid.invariant.puts
          c.put_qid-end.ensures.bytes;
    }

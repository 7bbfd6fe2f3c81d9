use Rattle.std.proofs.Common.{arith}
use Rattle.std.proofs.KnownBytes.{Appends-kept, Keeps-trans}
use Rattle.p9_client.proofs.Parts.{length-rest, written-more}
use Rattle.p9_client.proofs.transfer.send_all.Goals as goal
use Rattle.p9_client.proofs.transfer.send_all.Goals.{in-Ok, in-Err}

pub loop-preserved : goal.loop-preserved
loop-preserved g c = elim c.match-send.branch [
  | in-Ok w ↦ record {
    within = omega (
      arith,
      w.sent-is,
      w.in-Ok.ensures.bound,
      length-rest c.loop.sent c.args.bytes.now,
      c.loop.invariant.within,
    );
    written = written-more _ _ _ c.args.bytes.now c.loop.sent w.in-Ok.count c.match-send.sent w.sent-is
        w.in-Ok.ensures.bound c.loop.invariant.written w.in-Ok.ensures.written;
    left = Keeps-trans _ _ _ c.loop.invariant.left w.in-Ok.ensures.left;
  }
  | in-Err w ↦ rw w.sent-is record {
    within = c.loop.invariant.within;
    written = Appends-kept _ _ _ _ c.loop.invariant.written w.in-Err.ensures.written;
    left = Keeps-trans _ _ _ c.loop.invariant.left w.in-Err.ensures.left;
  }
]

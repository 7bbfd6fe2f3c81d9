use Rattle.std.proofs.Common.{◌≡◌, ◌-◌, ◌≤◌, arith, length}
use Rattle.std.proofs.KnownBytes.{Keeps-trans}
use Rattle.p9_client.proofs.Parts.{kept-before, length-part, read-more, read-none}
use Rattle.p9_client.proofs.transfer.receive_between.Goals as goal
use Rattle.p9_client.proofs.transfer.receive_between.Goals.{in-Ok, in-Err}

pub loop-preserved : goal.loop-preserved
loop-preserved g c =
    let within : c.loop.received ≤ length c.loop.bytes =
    omega (arith, c.loop.invariant.before, c.loop.auto.bytes, c.requires.within) in
    let room : length c.receive.new.bytes ≡ c.args.end - c.loop.received =
    omega (
      arith,
      c.receive.auto.bytes,
      length-part c.loop.received c.args.end c.loop.bytes (omega (arith, c.loop.auto.bytes, c.requires.within)),
    ) in
    elim c.match-receive.branch [
      | in-Ok w ↦ record {
        after = omega (arith, w.received-is, c.loop.invariant.after);
        before = omega (arith, w.received-is, w.in-Ok.ensures.bound.0, room, c.loop.invariant.before);
        read = read-more _ _ _ c.args.start c.loop.received _ w.in-Ok.count c.match-receive.received
            c.loop.bytes c.receive.new.bytes w.received-is c.loop.invariant.after within
            w.in-Ok.ensures.bound.0 c.loop.invariant.read w.in-Ok.ensures.read.0;
        kept = kept-before c.args.start c.loop.received _ c.loop.bytes c.receive.new.bytes
            c.args.bytes.now c.loop.invariant.after within c.loop.invariant.kept;
        written = Keeps-trans _ _ _ c.loop.invariant.written w.in-Ok.ensures.written;
      }
      | in-Err w ↦ record {
        after = omega (arith, w.received-is, c.loop.invariant.after);
        before = omega (arith, w.received-is, c.loop.invariant.before);
        read = read-none _ _ _ c.args.start c.loop.received _ c.match-receive.received c.loop.bytes
            c.receive.new.bytes w.received-is within c.loop.invariant.read w.in-Err.ensures.read;
        kept = kept-before c.args.start c.loop.received _ c.loop.bytes c.receive.new.bytes
            c.args.bytes.now c.loop.invariant.after within c.loop.invariant.kept;
        written = Keeps-trans _ _ _ c.loop.invariant.written w.in-Err.ensures.written;
      }
    ]

use Rattle.std.proofs.Common.{◌∙◌, ◌+◌, ◌<◌, ◌^◌, arith, refl}
use Rattle.p9_client.proofs.WriteAhead.{more-written, nothing-written}
use Rattle.p9_client.proofs.session.Session.write_whole.Goals as goal
use Rattle.p9_client.proofs.session.Session.write_whole.Goals.{then-count-len, else-count-len}

pub loop-written-init : goal.loop-written-init
loop-written-init g c =
    record {
      within = omega arith;
      failed = refl;
      some = c.data_max-most.ensures.some;
      small = omega (arith, c.data_max-most.ensures.small);
      wrote = nothing-written g.S.Read.remaining g.S.Write.contents c.args.fid c.args.bytes.now 0
          c.args.self.now;
    }

pub loop-written-preserved : goal.loop-written-preserved
loop-written-preserved g c =
    let ok = c.in_ok-count.ensures.ok in
    let span : (0 < c.if-count-len.span) × (c.if-count-len.span < 2 ^ 24) =
    elim c.if-count-len.branch [
      | then-count-len w ↦ (
        omega (arith, w.span-is, c.data_max-most.ensures.some),
        omega (arith, w.span-is, c.data_max-most.ensures.small),
      )
      | else-count-len w ↦ (
        omega (arith, w.span-is, c.data_max-most.ensures.some),
        omega (arith, w.span-is, c.data_max-most.ensures.small),
      )
    ] in
    record {
      within = omega (arith, ok.0, c.min-len.ensures, c.loop-written.invariant.within);
      failed = ok.3.exchanged.goes_on ∙ c.loop-written.invariant.failed;
      some = span.0;
      small = span.1;
      wrote = more-written g.S.Read.remaining g.S.Write.contents c.args.fid c.args.bytes.now 0
          c.loop-written.written (c.loop-written.written + c.in_ok-count.count) c.args.self.now
          c.loop-written.self c.write_ahead.new.self c.loop-written.invariant.wrote ok.3;
    }

use Rattle.std.proofs.Common.{◌≡◌, ◌∙◌, ℕ, ◌+◌, ◌-◌, ◌<◌, ap, arith, drop, min, subst, sym, take}
use Rattle.p9_wire.specs.Message.{Twrite}
use Rattle.p9_client.specs.Ahead.{part_size, write_part}
use Rattle.p9_client.proofs.Exchanged.{HasSent, next-sent}
use Rattle.p9_client.proofs.session.Session.send_writes.Goals as goal

pub loop-at-preserved : goal.loop-at-preserved
loop-at-preserved g c =
    let most : ℕ = c.args.self.now.msize - 24 in
    let at : ℕ = c.loop-at.at in
    let offset : ℕ = c.args.start + at in
    let size : c.min-size.result ≡ part_size most c.args.len at =
    c.min-size.ensures ∙ ap (λ (m : ℕ). min m (c.args.len - at)) c.data_max-most.ensures.value in
    let piece : offset + c.min-size.result - offset ≡ part_size most c.args.len at =
    omega (arith, size) in
    let some : 0 < part_size most c.args.len at =
    omega (arith, c.data_max-most.ensures.value, c.data_max-most.ensures.some, c.loop-at-test.true) in
    let request = write_part c.args.fid c.args.start most c.args.len c.args.bytes.now in
    record {
      within = omega (arith, c.min-size.ensures, c.loop-at-test.true);
      counted = omega (
        arith,
        c.min-size.ensures,
        c.loop-at-test.true,
        c.data_max-most.ensures.some,
        c.loop-at.invariant.counted,
      );
      few = omega (arith, c.if-count-lt-AHEAD_MAX.true);
      some = λ h. omega arith;
      alive = λ h. c.in_ok-send.ensures.goes_on;
      msize = c.in_ok-send.ensures.msize_is ∙ c.loop-at.invariant.msize;
      sent = subst (λ (n : ℕ). HasSent g.S.Read.remaining g.S.Write.contents request
          (part_size most c.args.len) (c.loop-at.count + 1) n c.args.self.now c.send.new.self)
          (ap (λ (n : ℕ). at + n) (sym size))
          (next-sent g.S.Read.remaining g.S.Write.contents request (part_size most c.args.len)
          c.loop-at.count at c.tag-tag.result _ c.args.self.now c.loop-at.self c.send.new.self
          c.loop-at.invariant.sent c.in_ok-send.ensures c.tag-tag.ensures
          (ap (λ (n : ℕ). Twrite c.args.fid offset (take n (drop offset c.args.bytes.now))) piece)
          some);
    }

use Rattle.std.proofs.Common.{◌≡◌, ◌+◌, ◌-◌, ◌∙◌, ℕ, ap, arith, drop}
use Rattle.std.proofs.Common.{take}
use Rattle.p9_conn.proofs.Buffers.{gained, gained-length}
use Rattle.p9_conn.proofs.window.Window.receive.Goals as goal

pub returns-clause-came : goal.returns-clause-came
returns-clause-came g c =
    let b = c.self.inside in
    let filled = b.end - b.start in
    let bytes = c.read_after.new.bytes.items in
    let read = drop filled (take (filled + c.in_ok-count.count) bytes) in
    let kept : take filled bytes ≡ c.args.self.now =
    c.in_ok-count.ensures.kept ∙ c.make_room.ensures.kept ∙ c.move_to_front.ensures.front
    ∙ c.self.view_is in
    let all : filled + c.in_ok-count.count - 0 ≡ filled + c.in_ok-count.count = omega arith in
    record {
      read = read;
      count_is = gained-length bytes filled c.in_ok-count.count
          (omega (
            arith,
            c.in_ok-count.ensures.count,
            c.in_ok-count.ensures.len,
            c.read_after.new.bytes.ok.0,
          ));
      behind = ap (λ (n : ℕ). take n bytes) all
          ∙ gained c.args.self.now bytes filled c.in_ok-count.count kept;
      consumed = c.in_ok-count.ensures.read;
    }

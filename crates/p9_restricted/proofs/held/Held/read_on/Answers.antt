use Rattle.std.proofs.Common.{◌≡◌, ◌+◌, ◌-◌, ◌∙◌, ℕ, ap, arith, drop, take}
use Rattle.p9_restricted.proofs.Holdings.{gained, gained-length}
use Rattle.p9_restricted.specs.Stream.{Holding}
use Rattle.p9_restricted.proofs.held.Held.read_on.Goals as goal

pub returns-clause-came : goal.returns-clause-came
returns-clause-came g c =
    let h = c.self.inside in
    let filled = h.end - h.passed in
    let bytes = c.read_behind.new.bytes in
    let read = drop filled (take (filled + c.in_ok-count.count) bytes) in
    let kept : take filled bytes ≡ c.args.self.now.undecided =
    c.in_ok-count.ensures.kept ∙ c.move_to_front.ensures
    ∙ ap (λ (o : Holding). o.undecided) c.self.view_is in
    let all : filled + c.in_ok-count.count - 0 ≡ filled + c.in_ok-count.count = omega arith in
    record {
      read = read;
      count_is = gained-length bytes filled c.in_ok-count.count
          (omega (arith, c.in_ok-count.ensures.count));
      behind = ap (λ (n : ℕ). take n bytes) all
          ∙ gained c.args.self.now.undecided bytes filled c.in_ok-count.count kept;
      consumed = c.in_ok-count.ensures.read;
    }

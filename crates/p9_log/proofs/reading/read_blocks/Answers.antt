use Rattle.std.proofs.Common.{◌+◌, ◌≤◌, ◌-◌, List, ℕ, length, sym, subst, arith}
use Rattle.p9_log.specs.declared.crash.Crash.{Crash}
use Rattle.p9_log.specs.Reading.{IsReadTo, closed_at}
use Rattle.p9_log.proofs.Reached.{read-step}
use Rattle.p9_log.proofs.Readings.{block-long}
use Rattle.p9_log.proofs.reading.read_blocks.Goals as goal

pub loop-block-smaller : goal.loop-block-smaller
loop-block-smaller g c =
    let x : List ℕ × Crash × List ℕ = (c.in-Some.block.now, c.in-Some.after, c.in-Some.behind.now) in
    let long : length c.in-Some.behind.now + 10 ≤ length c.loop-block.rest.now =
    block-long c.loop-block.mode c.loop-block.rest.now x c.in-Some.ensures in
    omega arith

pub loop-block-preserved : goal.loop-block-preserved
loop-block-preserved g c =
    let x : List ℕ × Crash × List ℕ = (c.in-Some.block.now, c.in-Some.after, c.in-Some.behind.now) in
    let step = read-step c.args.how c.loop-block.mode c.args.file.now c.loop-block.rest.now c.loop-block.bytes.items c.loop-block.kept x
    c.loop-block.invariant c.in-Some.ensures in
    subst (λ k. IsReadTo c.args.how c.in-Some.after c.args.file.now c.in-Some.behind.now c.extend_from_slice.new.self.items k)
    (sym c.closed_gate-kept.ensures)
    (subst (λ b. IsReadTo c.args.how c.in-Some.after c.args.file.now c.in-Some.behind.now b (closed_at c.loop-block.mode c.in-Some.after (length c.args.file.now - length c.loop-block.rest.now) c.loop-block.kept))
    (sym c.in_ok-extend_from_slice.ensures.items) step)

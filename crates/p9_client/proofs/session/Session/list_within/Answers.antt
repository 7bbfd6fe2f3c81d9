use Rattle.std.proofs.Common.{◌≡◌, ◌∙◌, ◌++◌, ◌+◌, ◌≤◌, ap, arith, length, length-take-le, refl, sym, take, take_at, List, ℕ}
use Rattle.p9_client.specs.Files.{spelled}
use Rattle.p9_client.proofs.ReadPieces.{more-read, nothing-read, piece-of, whole-read}
use Rattle.p9_client.proofs.session.Session.list_within.Goals as goal

pub returns-then-count-eq0-clause-listed : goal.returns-then-count-eq0-clause-listed
returns-then-count-eq0-clause-listed g c =
    whole-read g.S.Read.remaining g.S.Write.contents c.args.fid c.loop-offset.offset
    (spelled c.loop-offset.entries.items) _ c.args.self.now c.loop-offset.self c.read.new.self
    c.loop-offset.invariant.read
    (piece-of g.S.Read.remaining g.S.Write.contents c.args.fid c.loop-offset.offset _ c.in_ok-count.count
    _ c.read.new.buffer c.loop-offset.self c.read.new.self c.in_ok-count.ensures.call)
    (ap (λ (n : ℕ). take n c.read.new.buffer) c.if-count-eq0.true)

pub loop-offset-preserved : goal.loop-offset-preserved
loop-offset-preserved g c =
    let gets = c.in_ok-count.ensures.call in
    let count = c.in_ok-count.count in
    let within : count ≤ length c.read.new.buffer =
    omega (arith, gets.answer.2.within, c.read.auto.buffer) in
    let long : length c.read.new.buffer ≡ c.loop-offset.chunk.len =
    omega (arith, c.read.auto.buffer, c.as_mut_slice.ensures.len) in
    let chunk : c.deref.result.now ≡ c.read.new.buffer =
    c.deref.ensures.value ∙ take_at c.read.new.buffer _ c.loop-offset.chunk.len long in
    record {
      failed = gets.alive ∙ sym gets.asked.alive ∙ c.loop-offset.invariant.failed;
      read = more-read g.S.Read.remaining g.S.Write.contents c.args.fid c.loop-offset.offset (c.loop-offset.offset + count)
          (spelled c.loop-offset.entries.items) (take count c.read.new.buffer) _ c.args.self.now
          c.loop-offset.self c.read.new.self c.loop-offset.invariant.read
          (piece-of g.S.Read.remaining g.S.Write.contents c.args.fid c.loop-offset.offset _ count _
          c.read.new.buffer c.loop-offset.self c.read.new.self gets)
          (c.in_default.ensures
          ∙ ap (λ (zs : List ℕ). spelled c.loop-offset.entries.items ++ take count zs) chunk)
          (ap (λ (n : ℕ). c.loop-offset.offset + n) (sym (length-take-le count c.read.new.buffer within)));
    }

pub loop-offset-init : goal.loop-offset-init
loop-offset-init g c = record {
  failed = refl;
  read = nothing-read g.S.Read.remaining g.S.Write.contents c.args.fid _ c.args.self.now
      (ap spelled c.new-entries.ensures.items);
}

pub slice_bounds-push_entries-end : goal.slice_bounds-push_entries-end
slice_bounds-push_entries-end g c =
    let within : c.in_ok-count.count ≤ length c.read.new.buffer =
    omega (arith, c.in_ok-count.ensures.call.answer.2.within) in
    let chunk : c.deref.result.now ≡ c.read.new.buffer =
    c.deref.ensures.value ∙ take_at c.read.new.buffer _ c.loop-offset.chunk.len
    (omega (arith, c.read.auto.buffer, c.as_mut_slice.ensures.len)) in
    sym (length-take-le c.in_ok-count.count c.deref.result.now
    (rw chunk within))

pub returns-in-Err-clause-goes_on : goal.returns-in-Err-clause-goes_on
returns-in-Err-clause-goes_on g c = rw c.ended_by.ensures.same c.ended_by.ensures.failed

pub returns-then-count-eq0-clause-goes_on : goal.returns-then-count-eq0-clause-goes_on
returns-then-count-eq0-clause-goes_on g c =
    c.in_ok-count.ensures.call.alive ∙ sym c.in_ok-count.ensures.call.asked.alive
    ∙ c.loop-offset.invariant.failed

pub returns-clause-goes_on : goal.returns-clause-goes_on
returns-clause-goes_on g c = rw c.ended_by-2.ensures.same c.ended_by-2.ensures.failed

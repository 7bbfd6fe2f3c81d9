use Rattle.std.proofs.Common.{ℕ, ◌+◌, ap, ◌∙◌}
use Rattle.std.proofs.lemmas.List.{length_push}
use Rattle.p9_fields.specs.FieldReading.{times, text_at}
use Rattle.p9_fields.proofs.Times.{goes_on, ends, is_done}
use Rattle.p9_fields.proofs.fields.some_names.Goals as goal

pub returns-in_err-name : goal.returns-in_err-name
returns-in_err-name c =
    rw c.from_residual.ensures
    (ends text_at c.loop-i.names c.args.count c.loop-i.i c.loop-i.rest.now
    (times text_at c.args.count c.args.bytes.now) c.loop-i-test.true c.in_err-name.ensures
    c.loop-i.invariant.so_far)

pub loop-i-preserved : goal.loop-i-preserved
loop-i-preserved c = record {
  so_far =
      rw c.push.ensures
      (goes_on text_at c.loop-i.names c.args.count c.loop-i.i c.loop-i.rest.now c.in_ok-name.name.now
      c.in_ok-name.after.now (times text_at c.args.count c.args.bytes.now) c.loop-i-test.true
      c.in_ok-name.ensures c.loop-i.invariant.so_far);
  filled =
      rw c.push.ensures (length_push c.loop-i.names c.in_ok-name.name.now
      ∙ ap (λ (n : ℕ). n + 1) c.loop-i.invariant.filled);
}

pub returns : goal.returns
returns c =
    is_done text_at c.loop-i.names c.args.count c.loop-i.i c.loop-i.rest.now
    (times text_at c.args.count c.args.bytes.now) c.loop-i-test.false c.loop-i.invariant.so_far

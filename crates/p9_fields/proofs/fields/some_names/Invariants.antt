use Rattle.std.proofs.Common.{◌≡◌, ◌-◌, length}
use Rattle.p9_fields.specs.FieldReading.{times, text_at}
use Rattle.p9_fields.proofs.Times.{with_front}
use Rattle.p9_fields.proofs.fields.some_names.Given as goal

abbrev pub invariant-loop-i : goal.invariant-loop-i
invariant-loop-i l = record {
  so_far : with_front text_at l.names (times text_at (l.count - l.i) l.rest)
      ≡ times text_at l.count l.bytes;
  filled : length l.names ≡ l.i;
}

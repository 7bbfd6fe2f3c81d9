use Rattle.std.proofs.Common.{◌≡◌, drop}
use Rattle.p9_words.specs.Reading.{fields_from}
use Rattle.p9_words.proofs.field.take_fields.Given as goal

abbrev pub invariant-loop-field : goal.invariant-loop-field
invariant-loop-field g l =
    fields_from l.out.items (drop l.field-index l.fields) l.rest
    ≡ fields_from l.fn.out.items l.fields l.text

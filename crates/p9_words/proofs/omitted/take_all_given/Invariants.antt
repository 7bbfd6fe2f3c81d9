use Rattle.std.proofs.Common.{◌≡◌, drop}
use Rattle.p9_words.specs.Omitted.{given_from}
use Rattle.p9_words.proofs.omitted.take_all_given.Given as goal

abbrev pub invariant-loop-field : goal.invariant-loop-field
invariant-loop-field g l =
    given_from l.tag l.out.items (drop l.field-index l.fields) l.rest
    ≡ given_from l.tag l.fn.out.items l.fields l.text

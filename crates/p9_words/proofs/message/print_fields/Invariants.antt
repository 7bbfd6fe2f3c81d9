use Rattle.std.proofs.Common.{◌≡◌, ◌++◌, map, take}
use Rattle.std.specs.List.{flat_map}
use Rattle.p9_words.specs.Value.{value_view}
use Rattle.p9_words.specs.Words.{field_words}
use Rattle.p9_words.proofs.message.print_fields.Given as goal

abbrev pub invariant-loop-key : goal.invariant-loop-key
invariant-loop-key g l =
    l.out.items
    ≡ l.fn.out.items ++ flat_map field_words (map (λ f. (f.0, value_view f.1)) (take l.key-index
    l.fields))

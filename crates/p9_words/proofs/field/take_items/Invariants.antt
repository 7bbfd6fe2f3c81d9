use Rattle.std.proofs.Common.{◌≡◌, ◌-◌}
use Rattle.p9_words.specs.Reading.{items_from}
use Rattle.p9_words.proofs.field.take_items.Given as goal

abbrev pub invariant-loop-i : goal.invariant-loop-i
invariant-loop-i g l =
    items_from l.item l.out.items l.i (l.count - l.i) l.rest
    ≡ items_from l.item l.fn.out.items 0 l.count l.text

use Rattle.std.proofs.Common.{◌≡◌, ◌++◌, drop}
use Rattle.p9_words.specs.Words.{items_words, name_words}
use Rattle.p9_words.proofs.print.print_indexed_names.Given as goal

abbrev pub invariant-loop-i : goal.invariant-loop-i
invariant-loop-i g l =
    l.out.items ++ items_words name_words l.i (drop l.i l.names)
    ≡ l.fn.out.items ++ items_words name_words 0 l.names

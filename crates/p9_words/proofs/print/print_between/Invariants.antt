use Rattle.std.proofs.Common.{◌≡◌, ◌++◌, take}
use Rattle.std.specs.List.{flat_map}
use Rattle.p9_words.specs.Words.{between_quotes}
use Rattle.p9_words.proofs.print.print_between.Given as goal

abbrev pub invariant-loop-byte : goal.invariant-loop-byte
invariant-loop-byte g l =
    l.out.items ≡ l.fn.out.items ++ flat_map between_quotes (take l.byte-index l.text)

use Rattle.std.proofs.Common.{◌≡◌, ◌++◌, drop}
use Rattle.p9_words.specs.Words.{items_words, qid_words}
use Rattle.p9_words.proofs.print.print_indexed_qids.Given as goal

abbrev pub invariant-loop-i : goal.invariant-loop-i
invariant-loop-i g l =
    l.out.items ++ items_words qid_words l.i (drop l.i l.qids)
    ≡ l.fn.out.items ++ items_words qid_words 0 l.qids

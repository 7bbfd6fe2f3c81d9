use Rattle.std.proofs.Common.{◌-◌, ◌==◌, ℕ, List, ap, ◌∙◌, length, reverse, rules, tests}
use Rattle.std.proofs.lemmas.Iterator.Adapters.{YieldsList-from_rev_slice}
use Rattle.std.proofs.lemmas.Iterator.Consumers.{YieldsList-at, count_from_yields_List}
use Rattle.std.proofs.lemmas.Iterator.Search.{YieldsList-from_take_while}
use Rattle.std.proofs.lemmas.List.Folds.{length-prefix_len}
use Rattle.p9_log.proofs.reading.len_without_zeros.Goals as goal

pub returns : goal.returns
returns c =
    let bytes : List ℕ = c.args.bytes.now in
    ap (λ n. length bytes - n)
    (count_from_yields_List c.take_while.result c.count-zeros.result c.count-zeros.ensures.ran
    (YieldsList-from_take_while _ (λ byte. byte == 0)
    (YieldsList-at c.take_while.ensures.source (YieldsList-from_rev_slice bytes (cc)))
    c.take_while.ensures.closure c.take_while.ensures.done (λ x b q k. search (rules, tests)))
    ∙ length-prefix_len (λ byte. byte == 0) (reverse bytes))

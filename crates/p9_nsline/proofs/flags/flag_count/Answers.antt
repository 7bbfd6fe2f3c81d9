use Rattle.std.proofs.Common.{◌∙◌, rules, tests}
use Rattle.std.proofs.lemmas.Iterator.{YieldsList-from_slice}
use Rattle.std.proofs.lemmas.Iterator.Consumers.{YieldsList-at, count_from_yields_List}
use Rattle.std.proofs.lemmas.Iterator.Search.{YieldsList-from_take_while}
use Rattle.std.proofs.lemmas.List.Folds.{length-prefix_len}
use Rattle.p9_nsline.specs.Flags.{is_flag}
use Rattle.p9_base.proofs.Views.{prefix_len-map}
use Rattle.p9_nsline.proofs.flags.flag_count.Goals as goal

pub returns-clause-count : goal.returns-clause-count
returns-clause-count c =
    let words = c.args.words.now in
    count_from_yields_List c.take_while.result c.count.result c.count.ensures.ran
    (YieldsList-from_take_while _ (λ w. is_flag w.now)
    (YieldsList-at c.take_while.ensures.source (YieldsList-from_slice words (cc)))
    c.take_while.ensures.closure c.take_while.ensures.done (λ x b q k. search (rules, tests)))
    ∙ length-prefix_len (λ w. is_flag w.now) words
    ∙ prefix_len-map (λ w. w.now) is_flag words

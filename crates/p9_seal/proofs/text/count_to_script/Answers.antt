use Rattle.std.proofs.Common.{not, ◌∙◌, rules, tests}
use Rattle.std.proofs.lemmas.Iterator.{YieldsList-from_slice}
use Rattle.std.proofs.lemmas.Iterator.Consumers.{YieldsList-at, count_from_yields_List}
use Rattle.std.proofs.lemmas.Iterator.Search.{YieldsList-from_take_while}
use Rattle.std.proofs.lemmas.List.Folds.{length-prefix_len}
use Rattle.p9_base.proofs.Views.{prefix_len-map}
use Rattle.p9_seal.specs.Text.{begins_script}
use Rattle.p9_seal.proofs.text.count_to_script.Goals as goal

pub returns-clause-count : goal.returns-clause-count
returns-clause-count c =
    let lines = c.args.lines.now in
    count_from_yields_List c.take_while.result c.count.result c.count.ensures.ran
    (YieldsList-from_take_while _ (λ line. not (begins_script line.now))
    (YieldsList-at c.take_while.ensures.source (YieldsList-from_slice lines (cc)))
    c.take_while.ensures.closure c.take_while.ensures.done (λ x b q k. search (rules, tests)))
    ∙ length-prefix_len (λ line. not (begins_script line.now)) lines
    ∙ prefix_len-map (λ line. line.now) (λ line. not (begins_script line)) lines

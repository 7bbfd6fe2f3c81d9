use Rattle.std.proofs.Common.{rules, tests}
use Rattle.std.proofs.lemmas.Iterator.{YieldsList-from_slice}
use Rattle.std.proofs.lemmas.Iterator.Search.{all_from_yields_List}
use Rattle.p9_words.specs.Class.{is_in}
use Rattle.p9_words.proofs.class.all_in.Goals as goal

pub returns : goal.returns
returns c =
    all_from_yields_List (is_in c.args.class) _ _ c.all.result c.all.ensures.ran
    (YieldsList-from_slice c.args.text.now cc) (λ x b q k. search (rules, tests))

use Rattle.std.proofs.Common.{rules, tests, lit<, Ok}
use Rattle.std.proofs.lemmas.Iterator.Consumers.{map_from_collect, YieldsList-from_filter}
use Rattle.std.proofs.lemmas.Iterator.Consumers.{YieldsList-at}
use Rattle.std.proofs.lemmas.Iterator.Splits.{YieldsList-from_str_split}
use Rattle.p9_base.specs.Name.{slash}
use Rattle.p9_clean.specs.Path.{is_element}
use Rattle.p9_clean.proofs.path.elements.Goals as goal

pub returns : goal.returns
returns g c =
    map_from_collect {E = Unit {0}} (Ok c.in_ok-found.found) c.in_ok-found.ensures.ran
    (YieldsList-from_filter _ is_element
    (YieldsList-at c.filter.ensures.source
    (YieldsList-from_str_split slash c.args.path.now (lit< tt) c.split.ensures.text
    c.split.ensures.has_more c.split.ensures.pattern))
    c.filter.ensures.closure (λ x b q k. search (rules, tests)))

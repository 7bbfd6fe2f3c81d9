use Rattle.std.proofs.Common.{lit<, Ok}
use Rattle.std.proofs.lemmas.Iterator.Consumers.{map_from_collect}
use Rattle.std.proofs.lemmas.Iterator.Splits.{YieldsList-from_str_split}
use Rattle.p9_nsline.specs.Variable.{dollar}
use Rattle.p9_nsline.proofs.variable.pieces.Goals as goal

pub returns : goal.returns
returns g c =
    map_from_collect {E = Unit {0}} (Ok c.in_ok-found.found) c.in_ok-found.ensures.ran
    (YieldsList-from_str_split dollar c.args.word.now (lit< tt) c.split.ensures.text
    c.split.ensures.has_more c.split.ensures.pattern)

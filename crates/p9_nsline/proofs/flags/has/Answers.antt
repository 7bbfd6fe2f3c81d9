use Rattle.std.proofs.Common.{◌∙◌, rules, tests}
use Rattle.std.proofs.lemmas.Iterator.{YieldsList-from_slice}
use Rattle.std.proofs.lemmas.Iterator.Search.{any_from_yields_List}
use Rattle.p9_nsline.specs.Flags.{contains}
use Rattle.p9_base.proofs.Views.{list_any-map}
use Rattle.p9_nsline.proofs.flags.has.Goals as goal

pub returns : goal.returns
returns c =
    let flags = c.args.flags.now in
    any_from_yields_List (λ w. contains c.args.letter w.now) _ _ _ c.any.ensures.ran
    (YieldsList-from_slice flags (cc)) (λ x b q k. search (rules, tests))
    ∙ list_any-map (λ w. w.now) (contains c.args.letter) flags

use Rattle.std.proofs.Common.{◌∙◌, sym, rules, tests}
use Rattle.std.proofs.lemmas.Iterator.{YieldsList-from_slice}
use Rattle.std.proofs.lemmas.Iterator.Search.{all_from_yields_List}
use Rattle.std.proofs.lemmas.List.Folds.{list_all-map}
use Rattle.p9_nsline.specs.Flags.{is_good}
use Rattle.p9_nsline.proofs.flags.are_good.Goals as goal

pub returns : goal.returns
returns c =
    let flags = c.args.flags.now in
    all_from_yields_List (λ w. is_good w.now) _ _ _ c.all.ensures.ran
    (YieldsList-from_slice flags (cc)) (λ x b q k. search (rules, tests))
    ∙ sym (list_all-map is_good (λ w. w.now) flags)

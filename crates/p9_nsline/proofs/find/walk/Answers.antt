use Rattle.std.proofs.Common.{◌∙◌, None, map, ap, subst}
use Rattle.p9_clean.specs.Path.{cleaned_elements}
use Rattle.p9_space.specs.Walk.{walk}
use Rattle.p9_nsline.specs.Answer.{Gives}
use Rattle.p9_nsline.specs.Find.{path_fault}
use Rattle.p9_nsline.proofs.find.walk.Goals as goal

pub returns : goal.returns
returns g c =
    let names = ap (map (λ e. e.now)) c.deref.ensures.value ∙ c.in_ok-names.ensures in
    let forest = c.args.environment.now.forest in
    let start = c.args.start.now in
    subst (λ table. Gives
    (path_fault (walk forest table None start (cleaned_elements c.args.path.now))) c.walk.result)
    c.table.ensures
    (subst (λ names. Gives (path_fault (walk forest c.table.result.now None start names))
    c.walk.result) names c.walk.ensures)

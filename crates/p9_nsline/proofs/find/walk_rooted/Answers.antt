use Rattle.std.proofs.Common.{◌∙◌, ◌∷◌, subst}
use Rattle.p9_base.specs.Name.{slash}
use Rattle.p9_nsline.specs.Answer.{Gives}
use Rattle.p9_nsline.specs.Find.{walked_along}
use Rattle.p9_nsline.proofs.find.walk_rooted.Goals as goal

pub returns : goal.returns
returns g c =
    subst
    (λ start. Gives (walked_along c.args.environment.now c.args.space.now start (slash ∷ c.args.rest.now))
    c.walk.result) c.in_ok-root.ensures
    (subst (λ path. Gives (walked_along c.args.environment.now c.args.space.now c.in_ok-root.root path)
    c.walk.result) (c.as_str.ensures.value ∙ c.in_ok-path.ensures) c.walk.ensures)

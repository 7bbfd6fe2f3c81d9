use Rattle.std.proofs.Common.{◌∙◌, subst}
use Rattle.p9_nsline.specs.Answer.{Gives}
use Rattle.p9_nsline.specs.Find.{found_at}
use Rattle.p9_nsline.proofs.find.find.Goals as goal

pub returns : goal.returns
returns g c =
    subst (λ path. Gives (found_at c.args.environment.now c.args.space.now path) c.find_path.result)
    (c.as_str.ensures.value ∙ c.in_ok-path.ensures) c.find_path.ensures

use Rattle.p9_inside.proofs.Forests.{inside_by_parent}
use Rattle.p9_inside.proofs.meaning.inside_by_parent.Goals as goal

pub returns : goal.returns
returns c = inside_by_parent

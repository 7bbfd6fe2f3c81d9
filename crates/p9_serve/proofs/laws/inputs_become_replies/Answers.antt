use Rattle.p9_serve.proofs.Whole.{inputs-become-replies}
use Rattle.p9_serve.proofs.laws.inputs_become_replies.Goals as goal

pub returns : goal.returns
returns g c = inputs-become-replies

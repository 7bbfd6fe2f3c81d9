use Rattle.p9_serve.proofs.Holds.{streams-hold-the-replies}
use Rattle.p9_serve.proofs.laws.streams_hold_the_replies.Goals as goal

pub returns : goal.returns
returns g c = streams-hold-the-replies

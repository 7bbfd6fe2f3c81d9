use Rattle.p9_serve.proofs.Sends.{clients-are-sent-their-replies}
use Rattle.p9_serve.proofs.laws.clients_are_sent_their_replies.Goals as goal

pub returns : goal.returns
returns g c = clients-are-sent-their-replies

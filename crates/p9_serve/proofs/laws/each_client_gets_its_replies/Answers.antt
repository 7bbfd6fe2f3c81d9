use Rattle.p9_serve.proofs.Whole.{each-client-gets-its-replies}
use Rattle.p9_serve.proofs.laws.each_client_gets_its_replies.Goals as goal

pub returns : goal.returns
returns g c = each-client-gets-its-replies

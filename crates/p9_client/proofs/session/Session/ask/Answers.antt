use Rattle.p9_client.proofs.Calls.{asks}
use Rattle.p9_client.proofs.session.Session.ask.Goals as goal

pub returns : goal.returns
returns g c =
    asks g.S.Read.remaining g.S.Write.contents _ _ _ c.send.new.self c.receive.new.self c.receive.result
    c.in_ok-send.ensures c.receive.ensures

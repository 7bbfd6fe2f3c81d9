use Rattle.p9_client.proofs.Calls.{call}
use Rattle.p9_client.proofs.session.Session.create.Goals as goal

pub returns : goal.returns
returns g c =
    rw (← c.self.view_is, c.settled.ensures.result)
    (call g.S.Read.remaining g.S.Write.contents _ _ _ _ _ _ c.ask.new.self c.settled.new.self
    c.created_file-taken.result (rw (← c.self.view_is) at c.in_ok-ask.ensures.0) c.in_ok-ask.ensures.1
    (rw c.reply.ensures at c.created_file-taken.ensures) c.settled.ensures.settled)

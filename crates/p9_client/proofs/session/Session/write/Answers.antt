use Rattle.p9_client.proofs.Calls.{call}
use Rattle.p9_client.proofs.session.Session.write.Goals as goal

pub returns : goal.returns
returns g c =
    rw (← c.self.view_is, c.settled.ensures.result, ← c.min-most.ensures)
    (call g.S.Read.remaining g.S.Write.contents _ _ _ _ _ _ c.ask.new.self c.settled.new.self
    c.written_count-taken.result (rw (← c.self.view_is) at c.in_ok-ask.ensures.0) c.in_ok-ask.ensures.1
    (rw c.reply.ensures at c.written_count-taken.ensures) c.settled.ensures.settled)

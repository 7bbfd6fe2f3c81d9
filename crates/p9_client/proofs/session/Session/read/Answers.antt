use Rattle.p9_client.proofs.Calls.{call}
use Rattle.p9_client.proofs.session.Session.read.Goals as goal

pub returns-clause-call : goal.returns-clause-call
returns-clause-call g c =
    rw (← c.self.view_is, c.settled.ensures.result, ← c.min-most.ensures)
    (call g.S.Read.remaining g.S.Write.contents _ _ _ _ _ _ c.ask.new.self c.settled.new.self
    c.read_into-taken.result (rw (← c.self.view_is) at c.in_ok-ask.ensures.0) c.in_ok-ask.ensures.1
    (rw c.reply.ensures at c.read_into-taken.ensures.taken) c.settled.ensures.settled)
